use Rattle.std.proofs.Common.{◌≤◌}
use Rattle.bench.proofs.measures.decode.Given as goal

abbrev pub invariant-loop-s : goal.invariant-loop-s
invariant-loop-s l = l.decoder.halves ≤ l.s-index
