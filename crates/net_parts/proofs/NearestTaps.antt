-- The nearest of several taps, looked for group by group.
use Rattle.std.proofs.Common.{◌≡◌, ℕ, suc, ◌+◌, ◌≤◌, min, true, false, not, ◌&&◌, cond, eqb, Bool, List, [], ◌∷◌, ◌++◌, length, refl, ap, ◌∙◌, arith}
use Rattle.std.proofs.lemmas.Bool.{eq-eqb}
use Rattle.mac_parameters.specs.Distances.{distance}
use Rattle.layout.specs.declared.lines.PortLine.{PortLine}
use Rattle.net_parts.specs.Windows.{nearest, least_of_ports, most_lookahead}

-- the most stations of a layout
abbrev pub most_stations : ℕ
most_stations = 1024

pub few_nearest : (p : ℕ) (here : PortLine) (q : ℕ) (xs : List PortLine) → nearest p here q xs ≤ most_lookahead
few_nearest p here q [] = omega arith
few_nearest p here q (x ∷ xs) = let rest = few_nearest p here (q + 1) xs in omega (arith, rest)

pub few_ports : (all : List PortLine) (delay p : ℕ) (xs : List PortLine) → least_of_ports all delay p xs ≤ most_lookahead
few_ports all delay p [] = omega arith
few_ports all delay p (x ∷ xs) = let rest = few_ports all delay (p + 1) xs in omega (arith, rest)

-- one group of taps behind another
pub nearest_two : (p : ℕ) (here : PortLine) (q : ℕ) (xs ys : List PortLine) → nearest p here q (xs ++ ys) ≡ min (nearest p here q xs) (nearest p here (q + length xs) ys)
nearest_two p here q [] ys =
    let few = few_nearest p here q ys in
    let z : q ≡ q + 0 = omega arith in
    let same = ap (λ j. nearest p here j ys) z in
    omega (arith, few, same)
nearest_two p here q (x ∷ xs) ys =
    let rest = nearest_two p here (q + 1) xs ys in
    let z : q + 1 + length xs ≡ q + suc (length xs) = omega arith in
    let same = ap (λ j. nearest p here j ys) z in
    omega (arith, rest, same)

-- a tap isn't near to itself
pub not_itself : (p : ℕ) (here : PortLine) (q : ℕ) (x : PortLine) (xs : List PortLine) → q ≡ p → nearest p here q (x ∷ xs) ≡ nearest p here (q + 1) xs
not_itself p here q x xs e =
    let none : (eqb x.segment here.segment && not (eqb q p)) ≡ false = ap (λ b. eqb x.segment here.segment && not b) (eq-eqb q p e) ∙ and_false (eqb x.segment here.segment) in
    let is : cond (eqb x.segment here.segment && not (eqb q p)) (distance here.at x.at) most_lookahead ≡ most_lookahead = ap (λ b. cond b (distance here.at x.at) most_lookahead) none in
    let few = few_nearest p here (q + 1) xs in
    omega (arith, is, few)
  where
    and_false : (b : Bool) → (b && false) ≡ false
    and_false true = refl
    and_false false = refl
