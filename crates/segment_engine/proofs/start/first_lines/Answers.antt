use Rattle.std.proofs.Common.{◌≡◌, ◌<◌, ℕ, List, All, length, sym, subst, ap, ◌∙◌, arith, rules}
use Rattle.std.proofs.lemmas.Result.{IfOk-weaker}
use Rattle.load_plan.specs.declared.plan.Plan.{Plan}
use Rattle.network.specs.Times.{port_delays}
use Rattle.layout.specs.Taps.{positions_on}
use Rattle.net_parts.specs.SegmentParts.{wiring}
use Rattle.tap_lines.specs.TapLines.{TapLine}
use Rattle.segment_engine.specs.KnownLines.{KnowLines}
use Rattle.segment_engine.specs.NewLines.{AreNewLines}
use Rattle.segment_engine.proofs.Beginnings.{edges_within, taps_many, lines_known, lines_empty, lines_roomy}
use Rattle.segment_engine.proofs.start.first_lines.Goals.{After-deref-3}
use Rattle.segment_engine.proofs.start.first_lines.Goals as goal

-- the places, edges and delays are those of the segment's wiring
places : (c : After-deref-3) → c.deref-2.result.now ≡ (wiring c.args.plan.now.layout c.args.of.now.number).positions
places c = c.deref-2.ensures.value ∙ c.in_ok-places.ensures ∙ ap (positions_on c.args.of.now.number) (c.deref.ensures.value ∙ c.in_ok-taps.ensures)

edges : (c : After-deref-3) → c.as_slice-edges.result.now ≡ (wiring c.args.plan.now.layout c.args.of.now.number).edges
edges c = c.as_slice-edges.ensures ∙ c.args.of.now.edge_numbers ∙ ap (λ (p : Plan). (wiring p.layout c.args.of.now.number).edges) c.requires

delays : (c : After-deref-3) → c.deref-3.result.now ≡ port_delays c.args.plan.now.layout
delays c = c.deref-3.ensures.value ∙ c.in_ok-delays.ensures ∙ search rules

count : (c : After-deref-3) → c.len-stations.result ≡ length (wiring c.args.plan.now.layout c.args.of.now.number).stations
count c =
    let sized = ap length (c.args.of.now.station_numbers ∙ ap (λ (p : Plan). (wiring p.layout c.args.of.now.number).stations) c.requires) in
    let n = c.len-stations.ensures in
    omega (arith, n, sized)

pub lines_of-requires-clause-many : goal.lines_of-requires-clause-many
lines_of-requires-clause-many c =
    let at = (goal.at.lines_of-requires-clause-many c).After-deref-3 in
    let stations = count at in
    let places_count = ap length (places at) in
    let edges_count = ap length (edges at) in
    let many = taps_many c.args.plan.now c.args.of.now.number in
    omega (arith, stations, places_count, edges_count, many)

pub lines_of-requires-clause-within : goal.lines_of-requires-clause-within
lines_of-requires-clause-within c =
    let at = (goal.at.lines_of-requires-clause-within c).After-deref-3 in
    subst (λ (ds : List ℕ). All (λ e. e < length ds) c.as_slice-edges.result.now) (sym (delays at))
    (subst (All (λ e. e < length (port_delays c.args.plan.now.layout))) (sym (edges at)) (edges_within c.args.plan.now c.args.of.now.number))

-- new lines of these are those of the wiring
new : (c : After-deref-3) (L : ℕ) (ls : List TapLine) → AreNewLines c.deref-2.result.now c.len-stations.result L c.as_slice-edges.result.now c.deref-3.result.now ls →
    let w = wiring c.args.plan.now.layout c.args.of.now.number in
    AreNewLines w.positions (length w.stations) L w.edges (port_delays c.args.plan.now.layout) ls
new c L ls made = rw (← places c, ← count c, ← edges c, ← delays c) made

pub returns-clause-know : goal.returns-clause-know
returns-clause-know c =
    let at = (goal.at.returns-clause-know c).After-deref-3 in
    let s = c.args.of.now.number in
    let L = c.args.of.now.lookahead in
    IfOk-weaker c.lines_of.result _ _ (λ lines made.
    subst (λ (p : Plan). KnowLines p (wiring p.layout s) L 0 0 lines.items) (sym c.requires) (lines_known c.args.plan.now s L lines.items (new at L lines.items made)))
    c.lines_of.ensures

pub returns-clause-empty : goal.returns-clause-empty
returns-clause-empty c =
    let at = (goal.at.returns-clause-empty c).After-deref-3 in
    let L = c.args.of.now.lookahead in
    IfOk-weaker c.lines_of.result _ _ (λ lines made. lines_empty c.args.plan.now c.args.of.now.number L lines.items (new at L lines.items made)) c.lines_of.ensures

pub returns-clause-room : goal.returns-clause-room
returns-clause-room c =
    let at = (goal.at.returns-clause-room c).After-deref-3 in
    let L = c.args.of.now.lookahead in
    IfOk-weaker c.lines_of.result _ _ (λ lines made. lines_roomy c.args.plan.now c.args.of.now.number L lines.items (new at L lines.items made)) c.lines_of.ensures
