-- The places of a cable that a segment gets.
use Rattle.std.proofs.Common.{◌≡◌, ℕ, ◌+◌, ◌<◌, ◌≤◌, eqb, List, [], ◌∷◌, ◌++◌, All, length, filter, get_or, drop, append_assoc, refl, sym, ap, ◌∙◌, arith}
use Rattle.std.proofs.lemmas.List.{at_drop_more}
use Rattle.std.proofs.lemmas.List.Elements.{All-filter, All-map}
use Rattle.mac_parameters.specs.Parameters.{greatest_place}
use Rattle.layout.specs.declared.lines.PortLine.{PortLine}
use Rattle.net_step.specs.Wires.{cable_places}
use Rattle.layout.specs.Taps.{positions_on}
use Rattle.network.specs.TapsOnSegments.{numbers_on}
use Rattle.network.proofs.TapsOnSegments.{few_positions, length-numbers, numbers-here, numbers-there}

-- one tap more of all taps, on the segment or not
pub numbers_more : (s k : ℕ) (xs : List PortLine) (d : PortLine) (all before now : List ℕ) → k < length xs → (get_or xs k d).segment ≡ s → before ++ numbers_on s k (drop k xs) ≡ all → now ≡ before ++ k ∷ []
    → now ++ numbers_on s (k + 1) (drop (k + 1) xs) ≡ all
numbers_more s k xs d all before now l on h more =
    let rest = numbers_on s (k + 1) (drop (k + 1) xs) in
    let here : numbers_on s k (drop k xs) ≡ k ∷ rest = at_drop_more (numbers_on s k) xs k d l ∙ numbers-here s k (get_or xs k d) (drop (k + 1) xs) on in
    ap (λ (ns : List ℕ). ns ++ rest) more ∙ append_assoc before (k ∷ []) rest ∙ ap (λ (ns : List ℕ). before ++ ns) (sym here) ∙ h

pub numbers_same : (s k : ℕ) (xs : List PortLine) (d : PortLine) (all before : List ℕ) → k < length xs → ((get_or xs k d).segment ≡ s → ⊥) → before ++ numbers_on s k (drop k xs) ≡ all
    → before ++ numbers_on s (k + 1) (drop (k + 1) xs) ≡ all
numbers_same s k xs d all before l off h =
    ap (λ (ns : List ℕ). before ++ ns) (sym (at_drop_more (numbers_on s k) xs k d l ∙ numbers-there s k (get_or xs k d) (drop (k + 1) xs) off)) ∙ h

-- where all taps are near the cable's end, those of a segment are
pub near_positions : (s : ℕ) (xs : List PortLine) → All (λ x. x.at ≤ greatest_place) xs → All (λ p. p ≤ greatest_place) (positions_on s xs)
near_positions s xs h =
    All-map (λ p. p ≤ greatest_place) (λ (x : PortLine). x.at) (filter (λ x. eqb x.segment s) xs) (All-filter (λ x. eqb x.segment s) (λ x. x.at ≤ greatest_place) xs h)

-- a segment that has a tap has the places of its taps
pub places_some : (ps : List ℕ) → 0 < length ps → cable_places ps ≡ ps
places_some [] h = absurd (omega arith)
places_some (p ∷ ps) h = refl

-- a cable has a place for each tap of its segment, and not too many
pub numbers_fit : (s : ℕ) (all : List PortLine) → length (numbers_on s 0 all) ≤ length (cable_places (positions_on s all))
numbers_fit s all = let same = length-numbers s 0 all in let more = places_more (positions_on s all) in omega (arith, same, more)
  where
    places_more : (ps : List ℕ) → length ps ≤ length (cable_places ps)
    places_more [] = omega arith
    places_more (p ∷ ps) = omega arith

pub places_fit : (s n : ℕ) (all : List PortLine) → 1 < n → length all < n → length (cable_places (positions_on s all)) < n
places_fit s n all some few = let fewer = few_positions s all in bound (positions_on s all) (omega (arith, fewer, few))
  where
    bound : (ps : List ℕ) → length ps < n → length (cable_places ps) < n
    bound [] h = some
    bound (p ∷ ps) h = h
