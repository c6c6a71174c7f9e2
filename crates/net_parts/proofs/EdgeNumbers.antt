-- The numbers of edges, repeater by repeater, and the opening parcels of a segment.
use Rattle.std.proofs.Common.{◌≡◌, ℕ, zero, suc, ◌+◌, ◌<◌, true, false, not, ltb, inl, inr, List, [], ◌∷◌, ◌++◌, map, replicate, length, get_or, refl, sym, ap, ◌∙◌, arith}
use Rattle.std.proofs.lemmas.Bool.{cases_eq}
use Rattle.std.proofs.lemmas.Bool.Decides.{nat_tests}
use Rattle.manchester_line.specs.declared.Sym.TheVariants.{Idle}
use Rattle.layout.specs.declared.lines.PortLine.{PortLine}
use Rattle.layout.specs.declared.lines.RepeaterLine.{RepeaterLine}
use Rattle.load_plan.specs.declared.plan.Plan.{Plan}
use Rattle.network.specs.TapsOnSegments.{numbers_on}
use Rattle.network.proofs.TapsOnSegments.{numbers-here, numbers-there}
use Rattle.net_parts.specs.declared.parcel.Parcel.{Parcel}
use Rattle.net_parts.specs.Windows.{lookahead}
use Rattle.net_parts.specs.Machines.{span}
use Rattle.net_parts.specs.RepeaterParts.{edges_before, edges_in}
use Rattle.net_parts.specs.Parts.{edges_of_part, is_segment_part}
use Rattle.net_parts.specs.Parcels.{true_parcel, arrived}
use Rattle.net_parts.proofs.BoardEvents.{opening_symbols}

pub none_before : (rs : List RepeaterLine) → edges_before rs 0 ≡ 0
none_before [] = refl
none_before (r ∷ rs) = refl

pub one_more_before : (rs : List RepeaterLine) (k : ℕ) (d : RepeaterLine) → k < length rs → edges_before rs (k + 1) ≡ edges_before rs k + length (get_or rs k d).ports
one_more_before [] k d h = absurd (omega arith)
one_more_before (r ∷ rs) zero d h = let none = none_before rs in omega (arith, none)
one_more_before (r ∷ rs) (suc k) d h =
    let rest = one_more_before rs k d (omega arith) in
    let z : suc k ≡ k + 1 = omega arith in
    let same = ap (edges_before rs) z in
    let y : suc k + 1 ≡ suc (k + 1) = omega arith in
    let here = ap (edges_before (r ∷ rs)) y in
    omega (arith, rest, same, here)

pub edges_in_it : (rs : List RepeaterLine) (i : ℕ) (d : RepeaterLine) → i < length rs → edges_in rs i ≡ length (get_or rs i d).ports
edges_in_it [] i d h = absurd (omega arith)
edges_in_it (r ∷ rs) zero d h = refl
edges_in_it (r ∷ rs) (suc i) d h = edges_in_it rs i d (omega arith)

pub span_more : (k n : ℕ) → span (λ (e : ℕ). e) k (n + 1) ≡ span (λ (e : ℕ). e) k n ++ (k + n) ∷ []
span_more k zero = let z : k ≡ k + 0 = omega arith in ap (λ x. x ∷ []) z
span_more k (suc n) =
    let y : suc n + 1 ≡ suc (n + 1) = omega arith in
    let z : suc k + n ≡ k + suc n = omega arith in
    ap (span (λ (e : ℕ). e) k) y ∙ ap (λ xs. k ∷ xs) (span_more (suc k) n) ∙ ap (λ x. k ∷ (span (λ (e : ℕ). e) (suc k) n ++ x ∷ [])) z

pub numbers_two : (s k : ℕ) (xs ys : List PortLine) → numbers_on s k (xs ++ ys) ≡ numbers_on s k xs ++ numbers_on s (k + length xs) ys
numbers_two s k [] ys = let z : k ≡ k + 0 = omega arith in ap (λ j. numbers_on s j ys) z
numbers_two s k (x ∷ xs) ys =
    let rest = numbers_two s (k + 1) xs ys in
    let z : k + 1 + length xs ≡ k + suc (length xs) = omega arith in
    let later = rest ∙ ap (λ j. numbers_on s (k + 1) xs ++ numbers_on s j ys) z in
    elim (cases_eq x.segment s) [
      | inl on ↦ numbers-here s k x (xs ++ ys) on ∙ ap (λ ns. k ∷ ns) later ∙ sym (ap (λ ns. ns ++ numbers_on s (k + suc (length xs)) ys) (numbers-here s k x xs on))
      | inr off ↦ numbers-there s k x (xs ++ ys) off ∙ later ∙ sym (ap (λ ns. ns ++ numbers_on s (k + suc (length xs)) ys) (numbers-there s k x xs off))
    ]

is_segment : (plan : Plan) (s : ℕ) → s < length plan.layout.segments → is_segment_part plan s ≡ true
is_segment plan s h = less s (length plan.layout.segments) h
  where
    less : (a b : ℕ) → a < b → ltb a b ≡ true
    less a b h = grind (arith, nat_tests)

-- what a segment gets for the first window
pub arrived_first : (plan : Plan) (s : ℕ) → s < length plan.layout.segments → arrived plan s 0 ≡ map (true_parcel plan false 0) (edges_of_part plan s)
arrived_first plan s h = ap (λ b. map (true_parcel plan (not b) 0) (edges_of_part plan s)) (is_segment plan s h)

-- an opening parcel is a true one
pub opening_is : (plan : Plan) (e : ℕ) →
    (let p : Parcel = record { edge = e; window = 0; to_repeater = false; symbols = replicate (lookahead plan.layout) Idle; spoiled = false } in p) ≡ true_parcel plan false 0 e
opening_is plan e = ap (λ ss. let p : Parcel = record { edge = e; window = 0; to_repeater = false; symbols = ss; spoiled = false } in p) (opening_symbols plan e)
