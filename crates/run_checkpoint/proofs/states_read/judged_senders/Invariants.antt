use Rattle.std.proofs.Common.{◌≡◌, ◌+◌, ◌≤◌, [], drop, length}
use Rattle.run_checkpoint.specs.Judging.{judged_senders}
use Rattle.run_checkpoint.specs.TextLines.{text_lines}
use Rattle.run_checkpoint.proofs.states_read.judged_senders.Given as goal

abbrev pub invariant-stations : goal.invariant-stations
invariant-stations l =
    record {
      judged : judged_senders 2 [] l.stations l.queues (text_lines l.octets) ≡ judged_senders (l.k + 2) l.senders (drop l.k l.stations) (drop l.k l.queues) (text_lines l.rest);
      shorter : length l.rest ≤ length l.octets;
      many : length l.senders ≡ l.k;
    }
