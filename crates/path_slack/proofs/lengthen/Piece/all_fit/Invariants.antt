use Rattle.std.proofs.Common.{◌≤◌, All, take}
use Rattle.mac_parameters.specs.Parameters.{greatest_place}
use Rattle.layout.specs.declared.lines.PortLine.{PortLine}
use Rattle.path_slack.specs.Lengthened.{moved_place}
use Rattle.path_slack.proofs.lengthen.Piece.all_fit.Given as goal

abbrev pub invariant-loop-port : goal.invariant-loop-port
invariant-loop-port l = All (λ (p : PortLine). moved_place l.self.segment l.self.high l.self.by p.segment p.at ≤ greatest_place) (take l.port-index l.ports)
