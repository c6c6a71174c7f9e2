-- The numbers of a segment's taps, among the stations, among the ports, and among all.
use Rattle.std.proofs.Common.{◌≡◌, ℕ, zero, suc, ◌+◌, ◌-◌, ◌<◌, ◌≤◌, inl, inr, List, [], ◌∷◌, ◌++◌, take, length, get_or, refl, sym, ap, ◌∙◌, arith}
use Rattle.std.proofs.lemmas.Bool.{cases_eq}
use Rattle.layout.specs.declared.lines.PortLine.{PortLine}
use Rattle.network.specs.TapsOnSegments.{count_on, numbers_on}
use Rattle.network.proofs.TapsOnSegments.{numbers-here, numbers-there, count-here, count-there, length-numbers}

-- the tap of a number: where it is among all, and how many of its segment come before it
pub record IsNumbered (s k : ℕ) (all : List PortLine) (r : ℕ) (d : PortLine) : Type 0 where
  pub i : ℕ
  pub within : i < length all
  pub number : get_or (numbers_on s k all) r 0 ≡ k + i
  pub on : (get_or all i d).segment ≡ s
  pub before : count_on s (take i all) ≡ r

later : (s k : ℕ) (x : PortLine) (xs : List PortLine) (r : ℕ) (d : PortLine) (r' : ℕ) → IsNumbered s (k + 1) xs r d → get_or (numbers_on s k (x ∷ xs)) r' 0 ≡ get_or (numbers_on s (k + 1) xs) r 0 → ((i : ℕ) → count_on s (x ∷ take i xs) ≡ r' - r + count_on s (take i xs)) → r ≤ r' → IsNumbered s k (x ∷ xs) r' d
later s k x xs r d r' is e c l = record {
  i = suc is.i;
  within = let w = is.within in omega arith;
  number = e ∙ is.number ∙ omega arith;
  on = is.on;
  before = let b = is.before in c is.i ∙ omega (arith, b);
}

pub numbered : (s k : ℕ) (all : List PortLine) (r : ℕ) (d : PortLine) → r < length (numbers_on s k all) → IsNumbered s k all r d
numbered s k [] r d h = absurd (omega arith)
numbered s k (x ∷ xs) zero d h = elim (cases_eq x.segment s) [
  | inl on ↦ record { i = 0; within = omega arith; number = ap (λ ns. get_or ns 0 0) (numbers-here s k x xs on) ∙ omega arith; on = on; before = refl }
  | inr off ↦
      let there = numbers-there s k x xs off in
      let size = ap length there in
      later s k x xs 0 d 0 (numbered s (k + 1) xs 0 d (omega (arith, size))) (ap (λ ns. get_or ns 0 0) there) (λ i. count-there s x (take i xs) off ∙ omega arith) (omega arith)
]
numbered s k (x ∷ xs) (suc r) d h = elim (cases_eq x.segment s) [
  | inl on ↦
      let here = numbers-here s k x xs on in
      let size = ap length here in
      later s k x xs r d (suc r) (numbered s (k + 1) xs r d (omega (arith, size))) (ap (λ ns. get_or ns (suc r) 0) here) (λ i. count-here s x (take i xs) on ∙ omega arith) (omega arith)
  | inr off ↦
      let there = numbers-there s k x xs off in
      let size = ap length there in
      later s k x xs (suc r) d (suc r) (numbered s (k + 1) xs (suc r) d (omega (arith, size))) (ap (λ ns. get_or ns (suc r) 0) there) (λ i. count-there s x (take i xs) off ∙ omega arith) (omega arith)
]

-- two groups of taps, one after the other
pub count-left : (s : ℕ) (xs ys : List PortLine) (i : ℕ) → i ≤ length xs → count_on s (take i (xs ++ ys)) ≡ count_on s (take i xs)
count-left s xs ys zero h = refl
count-left s [] ys (suc i) h = absurd (omega arith)
count-left s (x ∷ xs) ys (suc i) h = elim (cases_eq x.segment s) [
  | inl on ↦ count-here s x (take i (xs ++ ys)) on ∙ ap suc (count-left s xs ys i (omega arith)) ∙ sym (count-here s x (take i xs) on)
  | inr off ↦ count-there s x (take i (xs ++ ys)) off ∙ count-left s xs ys i (omega arith) ∙ sym (count-there s x (take i xs) off)
]

pub count-right : (s k : ℕ) (xs ys : List PortLine) (i m : ℕ) → m ≡ length xs + i → count_on s (take m (xs ++ ys)) ≡ length (numbers_on s k xs) + count_on s (take i ys)
count-right s k [] ys i m e = let same : m ≡ i = omega arith in ap (λ j. count_on s (take j ys)) same ∙ omega arith
count-right s k (x ∷ xs) ys i zero e = absurd (omega arith)
count-right s k (x ∷ xs) ys i (suc m) e =
    let rest = count-right s (k + 1) xs ys i m (omega arith) in
    elim (cases_eq x.segment s) [
      | inl on ↦ let size = ap length (numbers-here s k x xs on) in count-here s x (take m (xs ++ ys)) on ∙ omega (arith, rest, size)
      | inr off ↦ let size = ap length (numbers-there s k x xs off) in count-there s x (take m (xs ++ ys)) off ∙ omega (arith, rest, size)
    ]

pub length-both : (s k : ℕ) (xs ys : List PortLine) → length (numbers_on s 0 (xs ++ ys)) ≡ length (numbers_on s k xs) + length (numbers_on s 0 ys)
length-both s k xs ys = many 0 k xs
  where
    alike : (a b : ℕ) (zs : List PortLine) → length (numbers_on s a zs) ≡ length (numbers_on s b zs)
    alike a b zs = length-numbers s a zs ∙ sym (length-numbers s b zs)

    many : (a b : ℕ) (zs : List PortLine) → length (numbers_on s a (zs ++ ys)) ≡ length (numbers_on s b zs) + length (numbers_on s 0 ys)
    many a b [] = alike a 0 ys ∙ omega arith
    many a b (z ∷ zs) = elim (cases_eq z.segment s) [
      | inl on ↦ let rest = many (a + 1) (b + 1) zs in let one = ap length (numbers-here s a z (zs ++ ys) on) in let two = ap length (numbers-here s b z zs on) in omega (arith, rest, one, two)
      | inr off ↦ let rest = many (a + 1) (b + 1) zs in let one = ap length (numbers-there s a z (zs ++ ys) off) in let two = ap length (numbers-there s b z zs off) in omega (arith, rest, one, two)
    ]
