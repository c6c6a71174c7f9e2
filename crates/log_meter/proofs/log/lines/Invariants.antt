use Rattle.std.proofs.Common.{◌≡◌, ◌+◌, ◌≤◌, ◌++◌, length}
use Rattle.std.specs.List.{AllByRecursion}
use Rattle.log_meter.specs.Lines.{IsLogLine}
use Rattle.log_meter.specs.Logs.{NeverFalls, last_half_bit, log_text, most_log_octets}
use Rattle.log_meter.proofs.log.lines.Given as goal

abbrev pub invariant-loop-rest : goal.invariant-loop-rest
invariant-loop-rest l =
    record {
      text : l.bytes ≡ log_text l.lines ++ l.rest;
      grammar : AllByRecursion IsLogLine l.lines;
      order : NeverFalls 0 l.lines;
      last : l.last ≡ last_half_bit 0 l.lines;
      number : l.number ≡ length l.lines;
      room : l.number + length l.rest ≤ most_log_octets;
    }

abbrev pub decreases-loop-rest : goal.decreases-loop-rest
decreases-loop-rest l = length l.rest
