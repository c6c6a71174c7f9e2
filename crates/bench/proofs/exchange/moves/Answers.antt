use denote.Param.Send.{sendable}
use Rattle.turn_run.proofs.Crossings.{segment_part_send, repeater_part_send}
use Rattle.bench.proofs.exchange.moves.Goals as goal

pub take-requires-send-S : goal.take-requires-send-S
take-requires-send-S c κs = search (sendable, segment_part_send) depth 12

pub take-requires-send-R : goal.take-requires-send-R
take-requires-send-R c κs = search (sendable, repeater_part_send) depth 12

pub go_round-requires-send-S : goal.go_round-requires-send-S
go_round-requires-send-S c κs = search (sendable, segment_part_send) depth 12

pub go_round-requires-send-R : goal.go_round-requires-send-R
go_round-requires-send-R c κs = search (sendable, repeater_part_send) depth 12
