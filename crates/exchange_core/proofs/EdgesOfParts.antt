-- No part has an edge twice, and no two parts of a kind have an edge in common.
use Rattle.std.proofs.Common.{◌≡◌, ◌≢◌, ℕ, zero, suc, ◌+◌, ◌-◌, ◌<◌, ◌≤◌, Bool, true, false, cond, ltb, inl, inr, List, [], ◌∷◌, length, get_or, refl, sym, ap, ◌∙◌, arith, subst, true≢false}
use Rattle.std.proofs.lemmas.Bool.{cases_eq, cases_lt, eq-eqb, ne_eqb}
use Rattle.std.proofs.lemmas.Bool.Decides.{nat_tests}
use Rattle.layout.specs.declared.lines.PortLine.{PortLine}
use Rattle.layout.specs.declared.lines.RepeaterLine.{RepeaterLine}
use Rattle.load_plan.specs.declared.plan.Plan.{Plan}
use Rattle.network.specs.TapsOnSegments.{numbers_on}
use Rattle.network.proofs.TapsOnSegments.{numbers-here, numbers-there}
use Rattle.net_parts.specs.Windows.{edge_ports}
use Rattle.net_parts.specs.Machines.{span}
use Rattle.net_parts.specs.RepeaterParts.{edges_before, edges_in}
use Rattle.net_parts.specs.Parts.{edges_of_part, edges_of_kind, is_segment_part, repeater_number}
use Rattle.net_parts.specs.Boards.{has_edge, place_in}

pub has_same : (f e : ℕ) (fs : List ℕ) → f ≡ e → has_edge (f ∷ fs) e ≡ true
has_same f e fs h = ap (λ b. cond b true (has_edge fs e)) (eq-eqb f e h)

pub has_other : (f e : ℕ) (fs : List ℕ) → f ≢ e → has_edge (f ∷ fs) e ≡ has_edge fs e
has_other f e fs h = ap (λ b. cond b true (has_edge fs e)) (ne_eqb f e h)

pub place_same : (f e : ℕ) (fs : List ℕ) → f ≡ e → place_in (f ∷ fs) e ≡ 0
place_same f e fs h = ap (λ b. cond b 0 (place_in fs e + 1)) (eq-eqb f e h)

pub place_other : (f e : ℕ) (fs : List ℕ) → f ≢ e → place_in (f ∷ fs) e ≡ suc (place_in fs e)
place_other f e fs h = let z : place_in fs e + 1 ≡ suc (place_in fs e) = omega arith in ap (λ b. cond b 0 (place_in fs e + 1)) (ne_eqb f e h) ∙ z

-- an edge that a list has stands at its place
pub place_within : (es : List ℕ) (e : ℕ) → has_edge es e ≡ true → place_in es e < length es
place_within [] e h = absurd (true≢false (sym h))
place_within (f ∷ fs) e h = elim (cases_eq f e) [
  | inl is ↦ let p = place_same f e fs is in omega (arith, p)
  | inr ne ↦ let p = place_other f e fs ne in let rest = place_within fs e (sym (has_other f e fs ne) ∙ h) in omega (arith, p, rest)
]

pub at_its_place : (es : List ℕ) (e d : ℕ) → has_edge es e ≡ true → get_or es (place_in es e) d ≡ e
at_its_place [] e d h = absurd (true≢false (sym h))
at_its_place (f ∷ fs) e d h = elim (cases_eq f e) [
  | inl is ↦ ap (λ k. get_or (f ∷ fs) k d) (place_same f e fs is) ∙ is
  | inr ne ↦ ap (λ k. get_or (f ∷ fs) k d) (place_other f e fs ne) ∙ at_its_place fs e d (sym (has_other f e fs ne) ∙ h)
]

pub has_each : (es : List ℕ) (k d : ℕ) → k < length es → has_edge es (get_or es k d) ≡ true
has_each [] k d h = absurd (omega arith)
has_each (f ∷ fs) zero d h = has_same f f fs refl
has_each (f ∷ fs) (suc k) d h = elim (cases_eq f (get_or fs k d)) [
  | inl is ↦ has_same f (get_or fs k d) fs is
  | inr ne ↦ has_other f (get_or fs k d) fs ne ∙ has_each fs k d (omega arith)
]

-- no edge of a list stands in it again
abbrev pub AreApart : List ℕ → Type 0
AreApart [] = Unit {0}
AreApart (e ∷ es) = (has_edge es e ≡ false) × AreApart es

pub place_of_each : (es : List ℕ) (k d : ℕ) → AreApart es → k < length es → place_in es (get_or es k d) ≡ k
place_of_each [] k d a h = absurd (omega arith)
place_of_each (f ∷ fs) zero d a h = place_same f f fs refl
place_of_each (f ∷ fs) (suc k) d a h =
    let ne : f ≢ get_or fs k d = λ is. true≢false (sym (has_each fs k d (omega arith)) ∙ ap (has_edge fs) (sym is) ∙ a.0) in
    place_other f (get_or fs k d) fs ne ∙ ap suc (place_of_each fs k d a.1 (omega arith))

-- the ports on a segment
abbrev IsOn : ℕ → ℕ → List PortLine → ℕ → PortLine → Type 0
IsOn s k xs e d = (k ≤ e) × ((get_or xs (e - k) d).segment ≡ s)

on_later : (s k : ℕ) (x : PortLine) (xs : List PortLine) (e : ℕ) (d : PortLine) → IsOn s (k + 1) xs e d → IsOn s k (x ∷ xs) e d
on_later s k x xs e d r =
    let above = r.0 in
    let z : e - k ≡ suc (e - (k + 1)) = omega (arith, above) in
    (omega (arith, above), ap (λ j. (get_or (x ∷ xs) j d).segment) z ∙ r.1)

on_first : (s k : ℕ) (x : PortLine) (xs : List PortLine) (e : ℕ) (d : PortLine) → x.segment ≡ s → k ≡ e → IsOn s k (x ∷ xs) e d
on_first s k x xs e d on is = let z : e - k ≡ 0 = omega (arith, is) in (omega (arith, is), ap (λ j. (get_or (x ∷ xs) j d).segment) z ∙ on)

on_it : (s k : ℕ) (xs : List PortLine) (e : ℕ) (d : PortLine) → has_edge (numbers_on s k xs) e ≡ true → IsOn s k xs e d
on_it s k [] e d h = absurd (true≢false (sym h))
on_it s k (x ∷ xs) e d h = elim (cases_eq x.segment s) [
  | inl on ↦ elim (cases_eq k e) [
    | inl is ↦ on_first s k x xs e d on is
    | inr ne ↦ on_later s k x xs e d (on_it s (k + 1) xs e d (sym (has_other k e (numbers_on s (k + 1) xs) ne) ∙ sym (ap (λ es. has_edge es e) (numbers-here s k x xs on)) ∙ h))
  ]
  | inr off ↦ on_later s k x xs e d (on_it s (k + 1) xs e d (sym (ap (λ es. has_edge es e) (numbers-there s k x xs off)) ∙ h))
]

none_below : (es : List ℕ) (e k : ℕ) → ((has_edge es e ≡ true) → k ≤ e) → e < k → has_edge es e ≡ false
none_below es e k above low = elim (has_edge es e) as (λ b. has_edge es e ≡ b → b ≡ false) [
  | true ↦ λ is. let a = above is in absurd (omega (arith, a, low))
  | false ↦ λ is. refl
] refl

numbers_apart : (s k : ℕ) (xs : List PortLine) → AreApart (numbers_on s k xs)
numbers_apart s k [] = tt
numbers_apart s k (x ∷ xs) = elim (cases_eq x.segment s) [
  | inl on ↦ subst AreApart (sym (numbers-here s k x xs on)) (none_below (numbers_on s (k + 1) xs) k (k + 1) (λ h. (on_it s (k + 1) xs k x h).0) (omega arith), numbers_apart s (k + 1) xs)
  | inr off ↦ subst AreApart (sym (numbers-there s k x xs off)) (numbers_apart s (k + 1) xs)
]

-- the ports of a repeater
within_span : (k n e : ℕ) → has_edge (span (λ (i : ℕ). i) k n) e ≡ true → (k ≤ e) × (e < k + n)
within_span k zero e h = absurd (true≢false (sym h))
within_span k (suc n) e h = elim (cases_eq k e) [
  | inl is ↦ (omega (arith, is), omega (arith, is))
  | inr ne ↦ let r = within_span (suc k) n e (sym (has_other k e (span (λ (i : ℕ). i) (suc k) n) ne) ∙ h) in let low = r.0 in let high = r.1 in (omega (arith, low), omega (arith, high))
]

span_apart : (k n : ℕ) → AreApart (span (λ (i : ℕ). i) k n)
span_apart k zero = tt
span_apart k (suc n) = (none_below (span (λ (i : ℕ). i) (suc k) n) k (suc k) (λ h. (within_span (suc k) n k h).0) (omega arith), span_apart (suc k) n)

one_after_another : (rs : List RepeaterLine) (i j : ℕ) → i < j → edges_before rs i + edges_in rs i ≤ edges_before rs j
one_after_another rs i zero h = absurd (omega arith)
one_after_another [] zero (suc j) h = omega arith
one_after_another [] (suc i) (suc j) h = omega arith
one_after_another (r ∷ rs) zero (suc j) h = omega arith
one_after_another (r ∷ rs) (suc i) (suc j) h = let rest = one_after_another rs i j (omega arith) in omega (arith, rest)

not_less : (a b : ℕ) → ltb a b ≡ false → b ≤ a
not_less a b h = elim (cases_lt a b) [ inl l ↦ grind (arith, nat_tests) | inr m ↦ m ]

module _ (plan : Plan) (u v e : ℕ) where
  same_repeater : has_edge (edges_of_kind plan false u) e ≡ true → has_edge (edges_of_kind plan false v) e ≡ true → repeater_number plan u < repeater_number plan v → ⊥
  same_repeater h k less =
      let rs = plan.layout.repeaters in
      let i = repeater_number plan u in
      let j = repeater_number plan v in
      let after = one_after_another rs i j less in
      let high = (within_span (edges_before rs i) (edges_in rs i) e h).1 in
      let low = (within_span (edges_before rs j) (edges_in rs j) e k).0 in
      omega (arith, after, high, low)

one_of_kind : (plan : Plan) (u v e : ℕ) (b : Bool) → is_segment_part plan u ≡ b → is_segment_part plan v ≡ b → has_edge (edges_of_kind plan b u) e ≡ true → has_edge (edges_of_kind plan b v) e ≡ true → u ≡ v
one_of_kind plan u v e true su sv h k =
    let none : PortLine = record { segment = 0; at = 0 } in
    sym (on_it u 0 (edge_ports plan.layout) e none h).1 ∙ (on_it v 0 (edge_ports plan.layout) e none k).1
one_of_kind plan u v e false su sv h k =
    let s = length plan.layout.segments in
    let lu = not_less u s su in
    let lv = not_less v s sv in
    let up : repeater_number plan u < repeater_number plan v → ⊥ = same_repeater plan u v e h k in
    let down : repeater_number plan v < repeater_number plan u → ⊥ = same_repeater plan v u e k h in
    elim (cases_eq u v) [
      | inl is ↦ is
      | inr ne ↦ elim (cases_lt (repeater_number plan u) (repeater_number plan v)) [
        | inl l ↦ absurd (up l)
        | inr m ↦ absurd (down (omega (arith, m, lu, lv, ne)))
      ]
    ]

-- an edge has one part of each kind
pub one_part : (plan : Plan) (u v e : ℕ) → is_segment_part plan u ≡ is_segment_part plan v → has_edge (edges_of_part plan u) e ≡ true → has_edge (edges_of_part plan v) e ≡ true → u ≡ v
one_part plan u v e same h k = one_of_kind plan u v e (is_segment_part plan v) same refl (subst (λ b. has_edge (edges_of_kind plan b u) e ≡ true) same h) k

apart_of_kind : (plan : Plan) (u : ℕ) (b : Bool) → AreApart (edges_of_kind plan b u)
apart_of_kind plan u true = numbers_apart u 0 (edge_ports plan.layout)
apart_of_kind plan u false = span_apart (edges_before plan.layout.repeaters (repeater_number plan u)) (edges_in plan.layout.repeaters (repeater_number plan u))

-- and a part has an edge once
pub edges_apart : (plan : Plan) (u : ℕ) → AreApart (edges_of_part plan u)
edges_apart plan u = apart_of_kind plan u (is_segment_part plan u)
