-- The times of a dump rise, each but the first and the last is one of a change, and what a dump doesn't tell anew
-- stays.
use Rattle.std.proofs.Common.{◌≡◌, ℕ, zero, suc, ◌+◌, ◌-◌, ◌<◌, ◌≤◌, Bool, true, false, cond, List, [], ◌∷◌, ◌++◌, length, get_or, refl, sym, ap, ◌∙◌, arith, add-one, inl, inr, All}
use Rattle.std.proofs.lemmas.Bool.{cases_Bool, false≢true}
use Rattle.std.proofs.lemmas.List.Elements.{All-cons, All-nil}
use Rattle.std.specs.Bool.{⊤}
use Rattle.std.specs.List.{filter, list_any, range_with_len}
use Rattle.std.specs.List.Sorted.{IsStrictlyIncreasing}
use denote.Enum.Bare.{sameb}
use Rattle.manchester_line.specs.contracts.Sym.{the_type}
use Rattle.manchester_line.specs.declared.Sym.{Sym}
use Rattle.line_probe.proofs.SameSymbols.{other_symbols, same_symbols}
use Rattle.wave_dump.specs.Changes.{changing_half_bits, do_differ, is_changed, symbol_in}
use Rattle.wave_dump.specs.WaveLaws.{OnlyChangesAreTold, TimesRise, ValuesLast}
use Rattle.wave_dump.proofs.Standing.{differ}

-- the first of these numbers is no less than a least one, and each other one is greater than the one before
abbrev Rises : ℕ → List ℕ → Type 0
Rises low [] = ⊤
Rises low (x ∷ xs) = (low ≤ x) × Rises (x + 1) xs

rises_from : (low less : ℕ) (xs : List ℕ) → less ≤ low → Rises low xs → Rises less xs
rises_from low less [] h r = tt
rises_from low less (x ∷ xs) h r = (omega (arith, r.0), r.1)

one_rises : (b : Bool) (low : ℕ) (xs : List ℕ) (to : ℕ) → Rises (low + 1) (xs ++ to ∷ []) → Rises low (cond b (low ∷ xs) xs ++ to ∷ [])
one_rises true low xs to h = (omega arith, h)
one_rises false low xs to h = rises_from (low + 1) low (xs ++ to ∷ []) (omega arith) h

all_rise : (p : ℕ → Bool) (low n to : ℕ) → low + n ≤ to → Rises low (filter p (range_with_len low n) ++ to ∷ [])
all_rise p low zero to h = (omega arith, tt)
all_rise p low (suc n) to h = one_rises (p low) low (filter p (range_with_len (low + 1) n)) to (all_rise p (low + 1) n to (omega arith))

next_above : (low : ℕ) (xs : List ℕ) → Rises low xs → (k : ℕ) → suc k < length xs → get_or xs k 0 < get_or xs (suc k) 0
next_above low [] r k h = absurd (omega arith)
next_above low (x ∷ []) r k h = absurd (omega arith)
next_above low (x ∷ y ∷ ys) r zero h = omega (arith, r.1.0)
next_above low (x ∷ y ∷ ys) r (suc k) h = next_above (x + 1) (y ∷ ys) r.1 k (omega arith)

increasing : (low : ℕ) (xs : List ℕ) → Rises low xs → IsStrictlyIncreasing xs
increasing low xs r k h = let less : get_or xs k 0 < get_or xs (suc k) 0 = next_above low xs r k (omega arith) in rw add-one less

pub times_rise : TimesRise
times_rise from to heard order =
    let rises : Rises from (from ∷ (changing_half_bits from to heard ++ to ∷ [])) = (omega arith, all_rise (λ t. list_any (is_changed from t) heard) (from + 1) (to - (from + 1)) to (omega arith)) in
    increasing from (from ∷ (changing_half_bits from to heard ++ to ∷ [])) rises

one_passes : (p : ℕ → Bool) (x : ℕ) (xs : List ℕ) (b : Bool) → p x ≡ b → All (λ t. p t ≡ true) xs → All (λ t. p t ≡ true) (cond b (x ∷ xs) xs)
one_passes p x xs true is h = All-cons (λ t. p t ≡ true) x xs is h
one_passes p x xs false is h = h

all_pass : (p : ℕ → Bool) (xs : List ℕ) → All (λ t. p t ≡ true) (filter p xs)
all_pass p [] = All-nil (λ t. p t ≡ true)
all_pass p (x ∷ xs) = one_passes p x (filter p xs) (p x) refl (all_pass p xs)

pub each_changes : OnlyChangesAreTold
each_changes from to heard = all_pass (λ t. list_any (is_changed from t) heard) (range_with_len (from + 1) (to - (from + 1)))

pub no_difference : (a b : Sym) → do_differ a b ≡ false → a ≡ b
no_difference a b h =
    elim (cases_Bool (sameb the_type a b)) [
      | inl same ↦ same_symbols a b same
      | inr other ↦ absurd (false≢true (sym h ∙ differ a b (other_symbols a b other)))
    ]

value_stays : (from s n : ℕ) (symbols : List Sym) → ((u : ℕ) → s < u → u ≤ s + n → is_changed from u symbols ≡ false) → symbol_in from symbols (s + n) ≡ symbol_in from symbols s
value_stays from s zero symbols h = let same : s + 0 ≡ s = omega arith in ap (symbol_in from symbols) same
value_stays from s (suc n) symbols h =
    let before : s + suc n - 1 ≡ s + n = omega arith in
    let last : symbol_in from symbols (s + suc n - 1) ≡ symbol_in from symbols (s + suc n) =
    no_difference (symbol_in from symbols (s + suc n - 1)) (symbol_in from symbols (s + suc n)) (h (s + suc n) (omega arith) (omega arith)) in
    sym last ∙ ap (symbol_in from symbols) before ∙ value_stays from s n symbols (λ u after up. h u after (omega arith))

pub values_last : ValuesLast
values_last from s t symbols start order h =
    let at : s + (t - s) ≡ t = omega arith in
    ap (symbol_in from symbols) (sym at) ∙ value_stays from s (t - s) symbols (λ u after up. h u after (omega arith))
