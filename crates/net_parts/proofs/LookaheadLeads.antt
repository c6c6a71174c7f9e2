-- The lookahead is a lead: no port is nearer to another tap of its segment than its delay and the way there.
use Rattle.std.proofs.Common.{◌≡◌, ◌≢◌, ℕ, zero, suc, ◌+◌, ◌-◌, ◌<◌, ◌≤◌, min, true, not, ◌&&◌, cond, eqb, inl, inr, All, List, [], ◌∷◌, ◌++◌, replicate, length, length-append, get_or, ap, ap₂, refl, sym, ◌∙◌, arith}
use Rattle.std.specs.List.{flat_map}
use Rattle.std.proofs.lemmas.List.{length-replicate, get_or_append_left, get_or-append_right, get_or-replicate}
use Rattle.std.proofs.lemmas.Bool.{eq-eqb, ne_eqb, cases_lt}
use Rattle.mac_parameters.specs.Distances.{distance}
use Rattle.layout.specs.declared.lines.Layout.{Layout}
use Rattle.layout.specs.declared.lines.PortLine.{PortLine}
use Rattle.layout.specs.declared.lines.RepeaterLine.{RepeaterLine}
use Rattle.layout.specs.Taps.{taps_of}
use Rattle.network.proofs.RunnablePlans.{runnable_plan}
use Rattle.net_parts.specs.Windows.{nearest, least_of_ports, least_of_repeaters, lookahead, edge_ports, most_lookahead}
use Rattle.net_parts.specs.PartLaws.{IsLead, LookaheadLeads}

least_left : (a b c : ℕ) → a ≤ c → min a b ≤ c
least_left a b c h = omega arith

nearest_is : (p : ℕ) (here d : PortLine) (q : ℕ) (xs : List PortLine) (i m : ℕ) → i < length xs → m ≡ q + i → m ≢ p → (get_or xs i d).segment ≡ here.segment → nearest p here q xs ≤ distance here.at (get_or xs i d).at
nearest_is p here d q [] i m h e ne on = absurd (omega arith)
nearest_is p here d q (x ∷ xs) zero m h e ne on =
    let same : m ≡ q = omega arith in
    let counts : (eqb x.segment here.segment && not (eqb q p)) ≡ true = ap₂ (λ b c. b && not c) (eq-eqb x.segment here.segment on) (ne_eqb q p (λ f. ne (same ∙ f))) in
    let is : cond (eqb x.segment here.segment && not (eqb q p)) (distance here.at x.at) most_lookahead ≡ distance here.at x.at = ap (λ b. cond b (distance here.at x.at) most_lookahead) counts in
    least_left _ (nearest p here (q + 1) xs) _ (omega (arith, is))
nearest_is p here d q (x ∷ xs) (suc i) m h e ne on =
    let rest = nearest_is p here d (q + 1) xs i m (omega arith) (omega arith) ne on in
    omega (arith, rest)

least_port : (all : List PortLine) (delay p : ℕ) (xs : List PortLine) (e : ℕ) (d : PortLine) → e < length xs → least_of_ports all delay p xs ≤ delay + nearest (p + e) (get_or xs e d) 0 all
least_port all delay p [] e d h = absurd (omega arith)
least_port all delay p (x ∷ xs) zero d h = let z : p ≡ p + 0 = omega arith in let same = ap (λ j. nearest j x 0 all) z in omega (arith, same)
least_port all delay p (x ∷ xs) (suc e) d h =
    let rest = least_port all delay (p + 1) xs e d (omega arith) in
    let z : p + 1 + e ≡ p + suc e = omega arith in
    let same = ap (λ j. nearest j (get_or xs e d) 0 all) z in
    omega (arith, rest, same)

abbrev all_delays : List RepeaterLine → List ℕ
all_delays rs = flat_map (λ (r : RepeaterLine). replicate (length r.ports) r.delay) rs

abbrev all_ports : List RepeaterLine → List PortLine
all_ports rs = flat_map (λ (r : RepeaterLine). r.ports) rs

least_edge : (all : List PortLine) (p : ℕ) (rs : List RepeaterLine) (e : ℕ) (d : PortLine) → e < length (all_ports rs) → least_of_repeaters all p rs ≤ get_or (all_delays rs) e 0 + nearest (p + e) (get_or (all_ports rs) e d) 0 all
least_edge all p [] e d h = absurd (omega arith)
least_edge all p (r ∷ rs) e d h =
    let n = length r.ports in
    let size : length (replicate n r.delay) ≡ n = length-replicate n r.delay in
    let both = length-append r.ports (all_ports rs) in
    elim (cases_lt e n) [
      | inl own ↦
          let delay : get_or (replicate n r.delay ++ all_delays rs) e 0 ≡ r.delay = get_or_append_left (replicate n r.delay) (all_delays rs) 0 e (omega (arith, own, size)) ∙ get_or-replicate n e r.delay 0 own in
          let port : get_or (r.ports ++ all_ports rs) e d ≡ get_or r.ports e d = get_or_append_left r.ports (all_ports rs) d e own in
          let same = ap (λ x. nearest (p + e) x 0 all) port in
          let least = least_port all r.delay p r.ports e d own in
          omega (arith, delay, same, least)
      | inr other ↦
          let delay : get_or (replicate n r.delay ++ all_delays rs) e 0 ≡ get_or (all_delays rs) (e - n) 0 = get_or-append_right (replicate n r.delay) (all_delays rs) n e 0 size other in
          let port : get_or (r.ports ++ all_ports rs) e d ≡ get_or (all_ports rs) (e - n) d = get_or-append_right r.ports (all_ports rs) n e d refl other in
          let z : p + n + (e - n) ≡ p + e = omega (arith, other) in
          let same = ap₂ (λ j x. nearest j x 0 all) (sym z) port in
          let least = least_edge all (p + n) rs (e - n) d (omega (arith, h, both, other)) in
          omega (arith, delay, same, least)
    ]

some_port : (all : List PortLine) (delay p : ℕ) (xs : List PortLine) → 1 ≤ delay → 1 ≤ least_of_ports all delay p xs
some_port all delay p [] h = omega arith
some_port all delay p (x ∷ xs) h = let rest = some_port all delay (p + 1) xs h in omega (arith, rest, h)

some_edge : (all : List PortLine) (p : ℕ) (rs : List RepeaterLine) → All (λ r. 1 ≤ r.delay) rs → 1 ≤ least_of_repeaters all p rs
some_edge all p [] late = omega arith
some_edge all p (r ∷ rs) late =
    let one = some_port all r.delay p r.ports (late 0 r (omega arith)) in
    let rest = some_edge all (p + length r.ports) rs (λ i d h. late (suc i) d (omega arith)) in
    omega (arith, one, rest)

pub few_edges : (all : List PortLine) (p : ℕ) (rs : List RepeaterLine) → least_of_repeaters all p rs ≤ most_lookahead
few_edges all p [] = omega arith
few_edges all p (r ∷ rs) = let rest = few_edges all (p + length r.ports) rs in omega (arith, rest)

pub leads : (l : Layout) → IsLead l (lookahead l)
unfolding lookahead
leads l e q d he hq ne on =
    let first = least_edge (taps_of l) (length l.stations) l.repeaters e d he in
    let near = nearest_is (length l.stations + e) (get_or (edge_ports l) e d) d 0 (taps_of l) q q hq (omega arith) ne on in
    omega (arith, first, near)

pub some_lookahead : (l : Layout) → All (λ r. 1 ≤ r.delay) l.repeaters → 1 ≤ lookahead l
unfolding lookahead
some_lookahead l late = some_edge (taps_of l) (length l.stations) l.repeaters late

pub few_lookahead : (l : Layout) → lookahead l ≤ most_lookahead
unfolding lookahead
few_lookahead l = few_edges (taps_of l) (length l.stations) l.repeaters

pub lookahead_leads : LookaheadLeads
lookahead_leads plan = record { lead = leads plan.layout; some = some_lookahead plan.layout (runnable_plan plan).some_delay; most = few_lookahead plan.layout }
