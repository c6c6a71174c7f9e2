-- Values of numbers that follow one another, cut and put together.
use Rattle.std.proofs.Common.{◌≡◌, ℕ, zero, suc, ◌+◌, ◌-◌, ◌<◌, ◌≤◌, List, [], ◌∷◌, ◌++◌, length, drop, get_or, sym, ap, ◌∙◌, arith, drop-cons}
use Rattle.std.proofs.Math.Seq.{drop-append_seam}
use Rattle.net_parts.specs.Machines.{span}
use Rattle.net_parts.proofs.RepeaterSteps.{length-span}

pub span_two : {X : Type 0} (f : ℕ → X) (k m n : ℕ) → span f k (m + n) ≡ span f k m ++ span f (k + m) n
span_two f k zero n =
    let a : 0 + n ≡ n = omega arith in
    let e : k ≡ k + 0 = omega arith in
    ap (span f k) a ∙ ap (λ j. span f j n) e
span_two f k (suc m) n =
    let a : suc m + n ≡ suc (m + n) = omega arith in
    let e : suc k + m ≡ k + suc m = omega arith in
    ap (span f k) a ∙ ap (λ xs. f k ∷ xs) (span_two f (suc k) m n ∙ ap (λ j. span f (suc k) m ++ span f j n) e)

pub span_more : {X : Type 0} (f : ℕ → X) (k n : ℕ) → span f k (n + 1) ≡ span f k n ++ f (k + n) ∷ []
span_more f k n = span_two f k n 1

pub drop-span : {X : Type 0} (f : ℕ → X) (k n i : ℕ) → i ≤ n → drop i (span f k n) ≡ span f (k + i) (n - i)
drop-span f k n i h =
    let e : n ≡ i + (n - i) = omega arith in
    let rest = span f (k + i) (n - i) in
    ap (λ m. drop i (span f k m)) e
    ∙ ap (drop i) (span_two f k i (n - i))
    ∙ ap (λ m. drop m (span f k i ++ rest)) (sym (length-span f k i))
    ∙ drop-append_seam (span f k i) rest

-- a list from place i on
pub rest_of : {X : Type 0} (xs : List X) (i : ℕ) (d : X) → i < length xs → get_or xs i d ∷ drop (i + 1) xs ≡ drop i xs
rest_of xs i d h = let one : i + 1 ≡ suc i = omega arith in ap (λ m. get_or xs i d ∷ drop m xs) one ∙ sym (drop-cons xs i d h)
