use denote.Param.Send.{sendable}
use Rattle.turn_run.proofs.Crossings.{segment_part_send, repeater_part_send}
use Rattle.worker_tests.proofs.runs.is_watched.Goals as goal

pub is_run_watched-requires-send-S : goal.is_run_watched-requires-send-S
is_run_watched-requires-send-S g c κs within = search (sendable, segment_part_send) depth 12

pub is_run_watched-requires-send-R : goal.is_run_watched-requires-send-R
is_run_watched-requires-send-R g c κs within = search (sendable, repeater_part_send) depth 12
