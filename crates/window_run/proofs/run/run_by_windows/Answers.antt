use denote.Param.Send.{sendable}
use Rattle.turn_run.proofs.Crossings.{segment_part_send, repeater_part_send}
use Rattle.window_run.proofs.run.run_by_windows.Goals as goal

pub run_parts-requires-send-S : goal.run_parts-requires-send-S
run_parts-requires-send-S g c κs within = search (sendable, segment_part_send) depth 12

pub run_parts-requires-send-R : goal.run_parts-requires-send-R
run_parts-requires-send-R g c κs within = search (sendable, repeater_part_send) depth 12
