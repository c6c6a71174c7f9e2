use Rattle.std.proofs.Common.{◌≤◌, All, take}
use Rattle.mac_parameters.specs.Parameters.{greatest_place}
use Rattle.layout.specs.declared.lines.PortLine.{PortLine}
use Rattle.layout.specs.declared.lines.RepeaterLine.{RepeaterLine}
use Rattle.layout.specs.declared.lines.StationLine.{StationLine}
use Rattle.path_slack.specs.Lengthened.{moved_place}
use Rattle.path_slack.proofs.lengthen.gap_fits.Given as goal

abbrev pub invariant-loop-k : goal.invariant-loop-k
invariant-loop-k l = All (λ (s : StationLine). moved_place l.segment l.high l.x s.segment s.at ≤ greatest_place) (take l.k l.layout.stations)

abbrev pub invariant-loop-r : goal.invariant-loop-r
invariant-loop-r l = All (λ (r : RepeaterLine). All (λ (p : PortLine). moved_place l.segment l.high l.x p.segment p.at ≤ greatest_place) r.ports) (take l.r l.layout.repeaters)
