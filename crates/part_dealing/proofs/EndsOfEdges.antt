-- Each edge has two ends: the segment on which its port is, and the port's repeater.
use Rattle.std.proofs.Common.{◌≡◌, ◌≢◌, ℕ, zero, suc, ◌+◌, ◌-◌, ◌<◌, ◌≤◌, Bool, true, false, not, ltb, inl, inr, List, [], ◌∷◌, length, get_or, refl, sym, ap, ◌∙◌, arith, subst, true≢false, length-append}
use Rattle.std.specs.List.{flat_map}
use Rattle.std.proofs.lemmas.Bool.{cases_eq}
use Rattle.std.proofs.lemmas.Bool.Decides.{nat_tests}
use Rattle.std.proofs.lemmas.List.{get_or_append_left, get_or-append_right}
use Rattle.layout.specs.declared.lines.PortLine.{PortLine}
use Rattle.layout.specs.declared.lines.RepeaterLine.{RepeaterLine}
use Rattle.load_plan.specs.declared.plan.Plan.{Plan}
use Rattle.load_plan.proofs.PlansAreSound.{sound_of_plan}
use Rattle.network.specs.TapsOnSegments.{numbers_on}
use Rattle.network.proofs.TapsOnSegments.{numbers-here, numbers-there}
use Rattle.net_parts.specs.Boards.{has_edge}
use Rattle.net_parts.specs.Machines.{span}
use Rattle.net_parts.specs.Parts.{edges_of_part, edges_of_kind, is_segment_part, repeater_number}
use Rattle.net_parts.specs.RepeaterParts.{edges_before, edges_in}
use Rattle.net_parts.specs.Windows.{edge_ports}
use Rattle.net_parts.proofs.EdgeNumbers.{edges_in_it}
use Rattle.exchange_core.proofs.EdgesOfParts.{has_same, has_other, one_part}
use Rattle.part_dealing.specs.OtherEnds.{IsOtherEnd}

-- the numbers from k on
in_span : (k n e : ℕ) → k ≤ e → e < k + n → has_edge (span (λ (i : ℕ). i) k n) e ≡ true
in_span k zero e low high = absurd (omega arith)
in_span k (suc n) e low high = elim (cases_eq k e) [
  | inl is ↦ has_same k e (span (λ (i : ℕ). i) (suc k) n) is
  | inr ne ↦ has_other k e (span (λ (i : ℕ). i) (suc k) n) ne ∙ in_span (suc k) n e (omega (arith, ne)) (omega arith)
]

span_ends : (k n e : ℕ) → has_edge (span (λ (i : ℕ). i) k n) e ≡ true → e < k + n
span_ends k zero e h = absurd (true≢false (sym h))
span_ends k (suc n) e h = elim (cases_eq k e) [
  | inl is ↦ omega (arith, is)
  | inr ne ↦ let rest = span_ends (suc k) n e (sym (has_other k e (span (λ (i : ℕ). i) (suc k) n) ne) ∙ h) in omega (arith, rest)
]

-- the ports on a segment
in_numbers : (s k : ℕ) (xs : List PortLine) (q : ℕ) (d : PortLine) → q < length xs → (get_or xs q d).segment ≡ s → has_edge (numbers_on s k xs) (k + q) ≡ true
in_numbers s k [] q d h on = absurd (omega arith)
in_numbers s k (x ∷ xs) zero d h on =
    ap (λ es. has_edge es (k + 0)) (numbers-here s k x xs on) ∙ has_same k (k + 0) (numbers_on s (k + 1) xs) (omega arith)
in_numbers s k (x ∷ xs) (suc q) d h on =
    let next : k + suc q ≡ k + 1 + q = omega arith in
    let rest = ap (has_edge (numbers_on s (k + 1) xs)) next ∙ in_numbers s (k + 1) xs q d (omega arith) on in
    elim (cases_eq x.segment s) [
      | inl here ↦ ap (λ es. has_edge es (k + suc q)) (numbers-here s k x xs here) ∙ has_other k (k + suc q) (numbers_on s (k + 1) xs) (λ is. omega (arith, is)) ∙ rest
      | inr there ↦ ap (λ es. has_edge es (k + suc q)) (numbers-there s k x xs there) ∙ rest
    ]

numbers_end : (s k : ℕ) (xs : List PortLine) (e : ℕ) → has_edge (numbers_on s k xs) e ≡ true → e < k + length xs
numbers_end s k [] e h = absurd (true≢false (sym h))
numbers_end s k (x ∷ xs) e h = elim (cases_eq x.segment s) [
  | inl here ↦ elim (cases_eq k e) [
    | inl is ↦ omega (arith, is)
    | inr ne ↦ let rest = numbers_end s (k + 1) xs e (sym (has_other k e (numbers_on s (k + 1) xs) ne) ∙ sym (ap (λ es. has_edge es e) (numbers-here s k x xs here)) ∙ h) in omega (arith, rest)
  ]
  | inr there ↦ let rest = numbers_end s (k + 1) xs e (sym (ap (λ es. has_edge es e) (numbers-there s k x xs there)) ∙ h) in omega (arith, rest)
]

-- the ports of all repeaters
abbrev ports_of_all : List RepeaterLine → List PortLine
ports_of_all rs = flat_map (λ (r : RepeaterLine). r.ports) rs

all_ports : (rs : List RepeaterLine) → length (ports_of_all rs) ≡ edges_before rs (length rs)
all_ports [] = refl
all_ports (r ∷ rs) = let rest = all_ports rs in let two = length-append r.ports (ports_of_all rs) in omega (arith, rest, two)

before_all : (rs : List RepeaterLine) (i : ℕ) → edges_before rs i + edges_in rs i ≤ edges_before rs (length rs)
before_all [] i = omega arith
before_all (r ∷ rs) zero = omega arith
before_all (r ∷ rs) (suc i) = let rest = before_all rs i in omega (arith, rest)

port_at : (rs : List RepeaterLine) (k p : ℕ) (d : RepeaterLine) (x : PortLine) → k < length rs → p < length (get_or rs k d).ports
    → get_or (ports_of_all rs) (edges_before rs k + p) x ≡ get_or (get_or rs k d).ports p x
port_at [] k p d x h m = absurd (omega arith)
port_at (r ∷ rs) zero p d x h m = let z : 0 + p ≡ p = omega arith in ap (λ j. get_or (ports_of_all (r ∷ rs)) j x) z ∙ get_or_append_left r.ports (ports_of_all rs) x p m
port_at (r ∷ rs) (suc k) p d x h m =
    let z : length r.ports + edges_before rs k + p - length r.ports ≡ edges_before rs k + p = omega arith in
    get_or-append_right r.ports (ports_of_all rs) (length r.ports) (length r.ports + edges_before rs k + p) x refl (omega arith)
    ∙ ap (λ j. get_or (ports_of_all rs) j x) z ∙ port_at rs k p d x (omega arith) m

-- the edge of a part is one of all
edge_of_kind : (plan : Plan) (u e : ℕ) (b : Bool) → has_edge (edges_of_kind plan b u) e ≡ true → e < edges_before plan.layout.repeaters (length plan.layout.repeaters)
edge_of_kind plan u e true h =
    let below = numbers_end u 0 (edge_ports plan.layout) e h in
    let many = all_ports plan.layout.repeaters in
    omega (arith, below, many)
edge_of_kind plan u e false h =
    let rs = plan.layout.repeaters in
    let i = repeater_number plan u in
    let below = span_ends (edges_before rs i) (edges_in rs i) e h in
    let within = before_all rs i in
    omega (arith, below, within)

pub edge_of_all : (plan : Plan) (u e : ℕ) → has_edge (edges_of_part plan u) e ≡ true → e < edges_before plan.layout.repeaters (length plan.layout.repeaters)
edge_of_all plan u e h = edge_of_kind plan u e (is_segment_part plan u) h

is_segment : (plan : Plan) (u : ℕ) → u < length plan.layout.segments → is_segment_part plan u ≡ true
is_segment plan u h = less u (length plan.layout.segments) h
  where
    less : (a b : ℕ) → a < b → ltb a b ≡ true
    less a b h = grind (arith, nat_tests)

-- a repeater is no segment
is_repeater : (plan : Plan) (u : ℕ) → length plan.layout.segments ≤ u → is_segment_part plan u ≡ false
is_repeater plan u h = more u (length plan.layout.segments) h
  where
    more : (a b : ℕ) → b ≤ a → ltb a b ≡ false
    more a b h = grind (arith, nat_tests)

of_two : (a b c : Bool) → c ≡ not a → b ≢ a → b ≡ c
of_two true true c is ne = absurd (ne refl)
of_two true false c is ne = sym is
of_two false true c is ne = sym is
of_two false false c is ne = absurd (ne refl)

-- a part of the other kind with the edge is the only other one
module _ (plan : Plan) (u e v : ℕ) (mine : has_edge (edges_of_part plan u) e ≡ true) (its : has_edge (edges_of_part plan v) e ≡ true)
    (kind : is_segment_part plan v ≡ not (is_segment_part plan u)) where
  only_other : (w : ℕ) → w ≢ u → has_edge (edges_of_part plan w) e ≡ true → w ≡ v
  only_other w ne has =
      one_part plan w v e (of_two (is_segment_part plan u) (is_segment_part plan w) (is_segment_part plan v) kind
      (λ same. ne (one_part plan w u e same has mine))) has its

-- the repeater k whose ports these are, the first of which is edge `first`
module _ (plan : Plan) (u e k : ℕ) (d : RepeaterLine) (ports : List PortLine) (first : ℕ) (mine : has_edge (edges_of_part plan u) e ≡ true)
    (within : k < length plan.layout.repeaters) (are : ports ≡ (get_or plan.layout.repeaters k d).ports) (starts : first ≡ edges_before plan.layout.repeaters k)
    (low : first ≤ e) (high : e - first < length ports) where
  pub at_repeater : u < length plan.layout.segments → IsOtherEnd plan u e (length plan.layout.segments + k)
  at_repeater segment =
      let rs = plan.layout.repeaters in
      let v = length plan.layout.segments + k in
      let is : is_segment_part plan v ≡ false = is_repeater plan v (omega arith) in
      let which : repeater_number plan v ≡ k = omega arith in
      let size = edges_in_it rs k d within in
      let same = ap length are in
      let here = in_span (edges_before rs k) (edges_in rs k) e (omega (arith, low, starts)) (omega (arith, low, high, starts, size, same)) in
      let its : has_edge (edges_of_part plan v) e ≡ true =
      ap (λ b. has_edge (edges_of_kind plan b v) e) is
      ∙ ap (λ i. has_edge (span (λ (j : ℕ). j) (edges_before rs i) (edges_in rs i)) e) which ∙ here in
      record {
        part = omega (arith, within);
        other = λ back. omega (arith, back, segment);
        edge = its;
        alone = only_other plan u e v mine its (is ∙ ap not (sym (is_segment plan u segment)));
      }

  pub at_segment : (x : PortLine) → length plan.layout.segments ≤ u → IsOtherEnd plan u e (get_or ports (e - first) x).segment
  at_segment x repeater =
      let rs = plan.layout.repeaters in
      let there = (get_or rs k d).ports in
      let p = e - first in
      let v = (get_or there p x).segment in
      let same = ap length are in
      let below : p < length there = omega (arith, high, same) in
      let sound : v < length plan.layout.segments = (((sound_of_plan plan).repeaters k d within).ports p x below).segment in
      let is : is_segment_part plan v ≡ true = is_segment plan v sound in
      let place : e ≡ 0 + (edges_before rs k + p) = omega (arith, low, starts) in
      let many = all_ports rs in
      let end = before_all rs k in
      let size = edges_in_it rs k d within in
      let in_all : edges_before rs k + p < length (ports_of_all rs) = omega (arith, many, end, size, below) in
      let here = in_numbers v 0 (edge_ports plan.layout) (edges_before rs k + p) x in_all (ap (λ (y : PortLine). y.segment) (port_at rs k p d x within below)) in
      let its : has_edge (edges_of_part plan v) e ≡ true =
      ap (λ b. has_edge (edges_of_kind plan b v) e) is
      ∙ ap (has_edge (numbers_on v 0 (edge_ports plan.layout))) place ∙ here in
      subst (λ ys. IsOtherEnd plan u e (get_or ys p x).segment) (sym are) (record {
        part = omega (arith, sound);
        other = λ back. omega (arith, back, sound, repeater);
        edge = its;
        alone = only_other plan u e v mine its (is ∙ ap not (sym (is_repeater plan u repeater)));
      })
