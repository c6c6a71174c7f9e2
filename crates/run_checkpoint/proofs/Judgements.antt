-- Judgements, part by part.
use Rattle.std.proofs.Common.{◌≡◌, ℕ, Bool, true, Option, None, Some, Ok, Err, refl, ap, inl, inr}
use Rattle.std.specs.Prelude.{Result}
use Rattle.std.proofs.lemmas.Bool.{cases_Bool}
use Rattle.run_checkpoint.specs.Judging.{judged_line, then_judged}
use Rattle.run_checkpoint.specs.declared.fault.StateFault.{StateFault}

-- two equal answers
pub same_ok : {A : Type 0} (x y : A) → ◌≡◌ {A = Result A StateFault} (Ok x) (Ok y) → x ≡ y
same_ok x y h = cc h

-- both parts have no fault
pub then_ok : {A B : Type 0} (r : Result A StateFault) (next : A → Result B StateFault) (y : B) → then_judged r next ≡ Ok y → (x : A) × (r ≡ Ok x) × (next x ≡ Ok y)
then_ok (Ok x) next y h = (x, refl, h)
then_ok (Err f) next y h = cc h

-- a line without a fault is of its form, and its values pass the test
pub line_ok : {A : Type 0} (n : ℕ) (o : Option A) (keeps : A → Bool) (x : A) → judged_line n o keeps ≡ Ok x → (o ≡ Some x) × (keeps x ≡ true)
line_ok n None keeps x h = cc h
line_ok n (Some z) keeps x h =
    elim (cases_Bool (keeps z)) [
      | inl fits ↦ let e = same_ok z x (rw fits at h) in (ap Some e, rw (← e) fits)
      | inr other ↦ cc (rw other at h)
    ]

pub line_again : {A : Type 0} (n : ℕ) (o : Option A) (keeps : A → Bool) (x : A) → o ≡ Some x → keeps x ≡ true → judged_line n o keeps ≡ Ok x
line_again n o keeps x is fits = rw (is, fits) refl
