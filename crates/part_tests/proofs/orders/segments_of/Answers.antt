use Rattle.std.specs.Prelude.{Some}
use denote.Param.Send.{sendable}
use Rattle.worker_gate.proofs.KeptPlans.{nothing_planned}
use Rattle.turn_run.proofs.Crossings.{segment_part_send, repeater_part_send}
use Rattle.part_tests.proofs.orders.segments_of.Goals as goal

pub new-share-requires-send-S : goal.new-share-requires-send-S
new-share-requires-send-S c κs = search (sendable, segment_part_send) depth 12

pub new-share-requires-send-R : goal.new-share-requires-send-R
new-share-requires-send-R c κs = search (sendable, repeater_part_send) depth 12

pub add_segment-requires-send-S : goal.add_segment-requires-send-S
add_segment-requires-send-S c κs = search (sendable, segment_part_send) depth 12

pub add_segment-requires-send-R : goal.add_segment-requires-send-R
add_segment-requires-send-R c κs = search (sendable, repeater_part_send) depth 12

pub add_segment-requires-2-send-S : goal.add_segment-requires-2-send-S
add_segment-requires-2-send-S c κs = search (sendable, segment_part_send) depth 12

pub add_segment-requires-2-send-R : goal.add_segment-requires-2-send-R
add_segment-requires-2-send-R c κs = search (sendable, repeater_part_send) depth 12

pub add_segment-requires-clause-planned : goal.add_segment-requires-clause-planned
add_segment-requires-clause-planned c κs = nothing_planned (Some c.args.plan.now) c.new-share.result c.new-share.ensures
