use Rattle.std.proofs.Common.{◌≡◌, ◌++◌, length, map, take, drop}
use Rattle.std.specs.Fn.{iterate}
use Rattle.manchester_line.specs.Line.{is_signal}
use Rattle.repeater_core.specs.Steady.{at_each, count_by}
use Rattle.repeater_core.proofs.steady.leap_counts.Given as goal

abbrev pub invariant-loop-k : goal.invariant-loop-k
invariant-loop-k l = record {
  len : length l.counts ≡ length l.fn.counts;
  states : take l.k l.counts ++ at_each (λ b c. iterate (count_by b) l.n c) (map is_signal (drop l.k l.decided)) (drop l.k l.counts) ≡ at_each (λ b c. iterate (count_by b) l.n c) (map is_signal l.decided) l.fn.counts;
  behind : drop l.k l.counts ≡ drop l.k l.fn.counts;
}
