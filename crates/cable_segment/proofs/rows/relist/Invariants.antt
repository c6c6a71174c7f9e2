use Rattle.cable_segment.specs.Skips.{Skips}
use Rattle.cable_segment.proofs.rows.relist.Given as goal

abbrev pub invariant-loop-k : goal.invariant-loop-k
invariant-loop-k l = Skips l.next l.rows l.taps
