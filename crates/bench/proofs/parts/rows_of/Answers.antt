use Rattle.std.proofs.Common.{◌≡◌, length, sym, ap, ap₂, ◌∙◌, rules}
use Rattle.net_parts.specs.Parts.{edges_of_part}
use Rattle.net_parts.proofs.NoEdges.{none_arrive}
use Rattle.bench.proofs.parts.rows_of.Goals as goal

pub run_window-requires-clause-parcels : goal.run_window-requires-clause-parcels
run_window-requires-clause-parcels c =
    let x = c.loop-window.part.segment in
    let new = c.reserve_window.new.self in
    let size : length c.edges.result.now ≡ 0 = search rules in
    let same : edges_of_part new.segment.plan.value new.segment.number ≡ edges_of_part x.plan.value x.number =
    ap₂ edges_of_part c.reserve_window.ensures.plan c.reserve_window.ensures.number in
    none_arrive new.segment.plan.value new.segment.number new.window (ap length same ∙ ap length (sym c.edges.ensures) ∙ size)
