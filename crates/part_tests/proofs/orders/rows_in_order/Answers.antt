use denote.Param.Send.{sendable}
use Rattle.turn_run.proofs.Crossings.{segment_part_send, repeater_part_send}
use Rattle.part_tests.proofs.orders.rows_in_order.Goals as goal

pub run-requires-send-S : goal.run-requires-send-S
run-requires-send-S c κs = search (sendable, segment_part_send) depth 12

pub run-requires-send-R : goal.run-requires-send-R
run-requires-send-R c κs = search (sendable, repeater_part_send) depth 12
