use denote.Param.Send.{sendable}
use Rattle.turn_run.proofs.Crossings.{segment_part_send, repeater_part_send}
use Rattle.part_tests.proofs.orders.rows_of.Goals as goal

pub into_parts-parts-requires-send-S : goal.into_parts-parts-requires-send-S
into_parts-parts-requires-send-S c κs = search (sendable, segment_part_send) depth 12

pub into_parts-parts-requires-send-R : goal.into_parts-parts-requires-send-R
into_parts-parts-requires-send-R c κs = search (sendable, repeater_part_send) depth 12

pub into_parts-parts-requires-2-send-S : goal.into_parts-parts-requires-2-send-S
into_parts-parts-requires-2-send-S c κs = search (sendable, segment_part_send) depth 12

pub into_parts-parts-requires-2-send-R : goal.into_parts-parts-requires-2-send-R
into_parts-parts-requires-2-send-R c κs = search (sendable, repeater_part_send) depth 12
