use Rattle.std.proofs.Common.{◌≡◌, take}
use Rattle.run_texts.specs.Counts.{totals}
use Rattle.run_texts.proofs.totals.totals.Given as goal

abbrev pub invariant-loop-counters : goal.invariant-loop-counters
invariant-loop-counters l = l.sums ≡ totals (take l.counters-index l.counts)
