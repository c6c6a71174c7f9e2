use Rattle.std.proofs.Common.{◌≡◌, ◌+◌, ◌≤◌, [], drop, length, map}
use Rattle.run_checkpoint.specs.Judging.{judged_guards}
use Rattle.run_checkpoint.specs.PortNames.{named_port}
use Rattle.run_checkpoint.specs.TextLines.{text_lines}
use Rattle.run_checkpoint.proofs.states_read.judged_guards.Given as goal

abbrev pub invariant-ports : goal.invariant-ports
invariant-ports l =
    record {
      judged : judged_guards l.first [] [] (map named_port l.ports) (text_lines l.octets) ≡ judged_guards (l.first + l.k) l.guards l.rests (map named_port (drop l.k l.ports)) (text_lines l.rest);
      shorter : length l.rest ≤ length l.octets;
    }
