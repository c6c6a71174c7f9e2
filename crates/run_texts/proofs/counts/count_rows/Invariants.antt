use Rattle.std.proofs.Common.{◌≡◌, drop}
use Rattle.run_texts.specs.Counting.{AreAtMost}
use Rattle.run_texts.specs.Counts.{all_counts_after}
use Rattle.run_texts.proofs.counts.count_rows.Given as goal

abbrev pub invariant-loop-row : goal.invariant-loop-row
invariant-loop-row l = record {
  so_far : all_counts_after 0 l.initial.counts l.rows ≡ all_counts_after 0 l.counts (drop l.row-index l.rows);
  rise : AreAtMost l.counts l.row-index;
}
