use Rattle.std.proofs.Common.{◌≡◌, ◌++◌, drop}
use Rattle.path_slack.proofs.lengthen.copied_ports.Given as goal

abbrev pub invariant-loop-port : goal.invariant-loop-port
invariant-loop-port l = l.ports ≡ l.copy ++ drop l.port-index l.ports
