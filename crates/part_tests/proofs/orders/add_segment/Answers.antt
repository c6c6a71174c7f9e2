use Rattle.std.proofs.Common.{ap, ◌∙◌}
use Rattle.std.specs.Prelude.{Some}
use Rattle.load_plan.specs.declared.plan.Plan.{Plan}
use Rattle.exchange_core.specs.Holdings.{added_segment}
use Rattle.exchange_core.specs.Shares.{Held}
use Rattle.worker_gate.proofs.KeptPlans.{opening_serves, segment_added}
use Rattle.part_tests.proofs.orders.add_segment.Goals as goal

pub add_segment-requires-clause-parcels : goal.add_segment-requires-clause-parcels
add_segment-requires-clause-parcels g c κs within =
    let part = c.args.part in
    opening_serves (g.S.Part.plan part) c.args.plan.now (g.S.Part.number part) c.part-number.result (g.S.Part.at part) c.in_ok-parcels.parcels
    c.in_ok-parcels.ensures c.requires.plan c.part-number.ensures c.requires.start

pub returns-clause-planned : goal.returns-clause-planned
returns-clause-planned g c =
    let part = c.args.part in
    segment_added (Some c.args.plan.now) (added_segment (g.S.Part.plan part) (g.S.Part.number part) (g.S.Part.at part) c.in_ok-parcels.parcels) c.args.share.now
    (ap (λ (plan : Plan). Some plan) c.requires.plan) c.requires.planned c.add_segment.new.self c.in_ok-add_segment.ensures.ok

pub returns-clause-alone : goal.returns-clause-alone
returns-clause-alone g c = ap (λ (s : Held). s.repeaters) c.in_ok-add_segment.ensures.ok ∙ c.requires.alone
