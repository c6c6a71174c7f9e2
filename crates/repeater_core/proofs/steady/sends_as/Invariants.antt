use Rattle.std.proofs.Common.{◌≡◌, map, drop}
use Rattle.manchester_line.specs.Line.{is_signal}
use Rattle.repeater_core.specs.Steady.{sent_from}
use Rattle.repeater_core.proofs.steady.sends_as.Given as goal

-- all are alike exactly where the ports from k on are
abbrev pub invariant-loop-k : goal.invariant-loop-k
invariant-loop-k l = record {
  alike : sent_from l.mode l.k (drop l.k l.counts) ≡ map is_signal (drop l.k l.row) → sent_from l.mode 0 l.counts ≡ map is_signal l.row;
  differs : sent_from l.mode 0 l.counts ≡ map is_signal l.row → sent_from l.mode l.k (drop l.k l.counts) ≡ map is_signal (drop l.k l.row);
}
