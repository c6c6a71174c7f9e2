use Rattle.std.proofs.Common.{ap}
use Rattle.std.specs.Prelude.{Some}
use Rattle.load_plan.specs.declared.plan.Plan.{Plan}
use denote.Param.Send.{sendable}
use Rattle.exchange_core.specs.Holdings.{added_repeater}
use Rattle.worker_gate.proofs.KeptPlans.{nothing_planned, repeater_added}
use Rattle.turn_run.proofs.Crossings.{segment_part_send, repeater_part_send}
use Rattle.part_tests.proofs.orders.repeater_of.Goals as goal

pub new-share-requires-send-S : goal.new-share-requires-send-S
new-share-requires-send-S c κs = search (sendable, segment_part_send) depth 12

pub new-share-requires-send-R : goal.new-share-requires-send-R
new-share-requires-send-R c κs = search (sendable, repeater_part_send) depth 12

pub add_repeater-requires-send-S : goal.add_repeater-requires-send-S
add_repeater-requires-send-S c κs = search (sendable, segment_part_send) depth 12

pub add_repeater-requires-send-R : goal.add_repeater-requires-send-R
add_repeater-requires-send-R c κs = search (sendable, repeater_part_send) depth 12

pub returns : goal.returns
returns c =
    let r = c.in_ok-r.r in
    repeater_added (Some c.args.plan.now) (added_repeater r.plan.value r.part r.window) c.new-share.result
    (ap (λ (plan : Plan). Some plan) c.in_ok-r.ensures.plan) (nothing_planned (Some c.args.plan.now) c.new-share.result c.new-share.ensures)
    c.add_repeater.new.self c.in_ok-add_repeater.ensures.ok
