use Rattle.std.proofs.Common.{◌≡◌, map, take}
use Rattle.path_slack.specs.Lengthened.{moved_port}
use Rattle.path_slack.proofs.lengthen.Piece.moved_ports.Given as goal

abbrev pub invariant-loop-port : goal.invariant-loop-port
invariant-loop-port l = l.moved ≡ map (moved_port l.self.segment l.self.high l.self.by) (take l.port-index l.ports)
