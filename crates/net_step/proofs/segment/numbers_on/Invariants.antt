use Rattle.std.proofs.Common.{◌≡◌, ◌++◌, drop}
use Rattle.network.specs.TapsOnSegments.{numbers_on}
use Rattle.net_step.proofs.segment.numbers_on.Given as goal

abbrev pub invariant-loop-k : goal.invariant-loop-k
invariant-loop-k l = l.numbers.items ++ numbers_on l.segment l.k (drop l.k l.taps) ≡ numbers_on l.segment 0 l.taps
