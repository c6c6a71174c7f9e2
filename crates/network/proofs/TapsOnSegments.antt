-- Where a tap is found on its segment.
use Rattle.std.proofs.Common.{◌≡◌, ℕ, zero, suc, ◌+◌, ◌<◌, ◌≤◌, Bool, cond, eqb, inl, inr, List, [], ◌∷◌, length, map, filter, get_or, take, refl, sym, ap, ap₂, ◌∙◌, arith}
use Rattle.std.proofs.lemmas.List.Sums.{sum_by-cons}
use Rattle.std.proofs.lemmas.Bool.{cases_eq, eq-eqb, ne_eqb}
use Rattle.layout.specs.declared.lines.PortLine.{PortLine}
use Rattle.layout.specs.Taps.{positions_on}
use Rattle.network.specs.TapsOnSegments.{numbers_on, count_on}

-- one tap more before the others, on the segment or not
pub count-here : (s : ℕ) (x : PortLine) (xs : List PortLine) → x.segment ≡ s → count_on s (x ∷ xs) ≡ suc (count_on s xs)
count-here s x xs e =
    let one : count_on s (x ∷ xs) ≡ 1 + count_on s xs = sum_by-cons (λ (y : PortLine). cond (eqb y.segment s) 1 0) x xs ∙ ap (λ (b : Bool). cond b 1 0 + count_on s xs) (eq-eqb x.segment s e) in
    omega (arith, one)

pub count-there : (s : ℕ) (x : PortLine) (xs : List PortLine) → (x.segment ≡ s → ⊥) → count_on s (x ∷ xs) ≡ count_on s xs
count-there s x xs ne =
    let none : count_on s (x ∷ xs) ≡ 0 + count_on s xs = sum_by-cons (λ (y : PortLine). cond (eqb y.segment s) 1 0) x xs ∙ ap (λ (b : Bool). cond b 1 0 + count_on s xs) (ne_eqb x.segment s ne) in
    omega (arith, none)

pub positions-here : (s : ℕ) (x : PortLine) (xs : List PortLine) → x.segment ≡ s → positions_on s (x ∷ xs) ≡ x.at ∷ positions_on s xs
positions-here s x xs e = ap (λ (b : Bool). map (λ (y : PortLine). y.at) (cond b (x ∷ filter (λ (y : PortLine). eqb y.segment s) xs) (filter (λ (y : PortLine). eqb y.segment s) xs))) (eq-eqb x.segment s e)

pub positions-there : (s : ℕ) (x : PortLine) (xs : List PortLine) → (x.segment ≡ s → ⊥) → positions_on s (x ∷ xs) ≡ positions_on s xs
positions-there s x xs ne = ap (λ (b : Bool). map (λ (y : PortLine). y.at) (cond b (x ∷ filter (λ (y : PortLine). eqb y.segment s) xs) (filter (λ (y : PortLine). eqb y.segment s) xs))) (ne_eqb x.segment s ne)

pub numbers-here : (s k : ℕ) (x : PortLine) (xs : List PortLine) → x.segment ≡ s → numbers_on s k (x ∷ xs) ≡ k ∷ numbers_on s (k + 1) xs
numbers-here s k x xs e = ap (λ (b : Bool). cond b (k ∷ numbers_on s (k + 1) xs) (numbers_on s (k + 1) xs)) (eq-eqb x.segment s e)

pub numbers-there : (s k : ℕ) (x : PortLine) (xs : List PortLine) → (x.segment ≡ s → ⊥) → numbers_on s k (x ∷ xs) ≡ numbers_on s (k + 1) xs
numbers-there s k x xs ne = ap (λ (b : Bool). cond b (k ∷ numbers_on s (k + 1) xs) (numbers_on s (k + 1) xs)) (ne_eqb x.segment s ne)

-- the place of a tap stands at its number on the segment
pub position_at : (s : ℕ) (all : List PortLine) (q : ℕ) (d : PortLine) → q < length all → (get_or all q d).segment ≡ s → get_or (positions_on s all) (count_on s (take q all)) 0 ≡ (get_or all q d).at
position_at s [] q d h e = absurd (omega arith)
position_at s (x ∷ xs) zero d h e = ap (λ ps. get_or ps 0 0) (positions-here s x xs e)
position_at s (x ∷ xs) (suc q) d h e = elim (cases_eq x.segment s) [
  | inl on ↦ ap₂ (λ ps c. get_or ps c 0) (positions-here s x xs on) (count-here s x (take q xs) on) ∙ position_at s xs q d (omega arith) e
  | inr off ↦ ap₂ (λ ps c. get_or ps c 0) (positions-there s x xs off) (count-there s x (take q xs) off) ∙ position_at s xs q d (omega arith) e
]

-- and so does its number among all
pub number_at : (s k : ℕ) (all : List PortLine) (q : ℕ) (d : PortLine) → q < length all → (get_or all q d).segment ≡ s → get_or (numbers_on s k all) (count_on s (take q all)) 0 ≡ k + q
number_at s k [] q d h e = absurd (omega arith)
number_at s k (x ∷ xs) zero d h e = let z : k ≡ k + 0 = omega arith in ap (λ ps. get_or ps 0 0) (numbers-here s k x xs e) ∙ z
number_at s k (x ∷ xs) (suc q) d h e = let next : k + 1 + q ≡ k + suc q = omega arith in elim (cases_eq x.segment s) [
  | inl on ↦ ap₂ (λ ps c. get_or ps c 0) (numbers-here s k x xs on) (count-here s x (take q xs) on) ∙ number_at s (k + 1) xs q d (omega arith) e ∙ next
  | inr off ↦ ap₂ (λ ps c. get_or ps c 0) (numbers-there s k x xs off) (count-there s x (take q xs) off) ∙ number_at s (k + 1) xs q d (omega arith) e ∙ next
]

-- the taps before it on its segment are fewer than all there
pub count_below : (s : ℕ) (all : List PortLine) (q : ℕ) (d : PortLine) → q < length all → (get_or all q d).segment ≡ s → count_on s (take q all) < length (positions_on s all)
count_below s [] q d h e = absurd (omega arith)
count_below s (x ∷ xs) zero d h e = let one = ap length (positions-here s x xs e) in omega (arith, one)
count_below s (x ∷ xs) (suc q) d h e = elim (cases_eq x.segment s) [
  | inl on ↦ let rest = count_below s xs q d (omega arith) e in let one = ap length (positions-here s x xs on) in let c = count-here s x (take q xs) on in omega (arith, rest, one, c)
  | inr off ↦ let rest = count_below s xs q d (omega arith) e in let one = ap length (positions-there s x xs off) in let c = count-there s x (take q xs) off in omega (arith, rest, one, c)
]

pub length-numbers : (s k : ℕ) (all : List PortLine) → length (numbers_on s k all) ≡ length (positions_on s all)
length-numbers s k [] = refl
length-numbers s k (x ∷ xs) = elim (cases_eq x.segment s) [
  | inl on ↦ ap length (numbers-here s k x xs on) ∙ ap suc (length-numbers s (k + 1) xs) ∙ sym (ap length (positions-here s x xs on))
  | inr off ↦ ap length (numbers-there s k x xs off) ∙ length-numbers s (k + 1) xs ∙ sym (ap length (positions-there s x xs off))
]

-- two taps of a segment have the same number there exactly where they are the same
pub same_number : (s : ℕ) (all : List PortLine) (i q : ℕ) (d : PortLine) → i < length all → q < length all → (get_or all i d).segment ≡ s → (get_or all q d).segment ≡ s →
    eqb (count_on s (take i all)) (count_on s (take q all)) ≡ eqb i q
same_number s all i q d hi hq ei eq = elim (cases_eq i q) [
  | inl e ↦ eq-eqb _ _ (ap (λ j. count_on s (take j all)) e) ∙ sym (eq-eqb i q e)
  | inr ne ↦ ne_eqb _ _ (λ c. ne (let first = number_at s 0 all i d hi ei in let second = number_at s 0 all q d hq eq in let at = ap (λ j. get_or (numbers_on s 0 all) j 0) c in omega (arith, first, second, at))) ∙ sym (ne_eqb i q ne)
]

pub few_positions : (s : ℕ) (all : List PortLine) → length (positions_on s all) ≤ length all
few_positions s [] = omega arith
few_positions s (x ∷ xs) = elim (cases_eq x.segment s) [
  | inl on ↦ let rest = few_positions s xs in let one = ap length (positions-here s x xs on) in omega (arith, rest, one)
  | inr off ↦ let rest = few_positions s xs in let one = ap length (positions-there s x xs off) in omega (arith, rest, one)
]
