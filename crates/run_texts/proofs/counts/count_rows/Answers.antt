use Rattle.std.proofs.Common.{◌-◌, ◌^◌, arith}
use Rattle.run_texts.proofs.CountedRows.{are_at_most_more, last_row, next_row}
use Rattle.run_texts.proofs.counts.count_rows.Goals as goal

pub count_row-requires : goal.count_row-requires
count_row-requires c = are_at_most_more c.loop-row.counts c.loop-row.row-index (2 ^ 64 - 2) (omega arith) c.loop-row.invariant.rise

pub loop-row-preserved : goal.loop-row-preserved
loop-row-preserved c = record {
  so_far = next_row _ c.loop-row.counts c.count_row.new.counts c.args.rows.now c.loop-row.row-index _ c.loop-row-test.true c.loop-row.invariant.so_far c.count_row.ensures.counts;
  rise = c.count_row.ensures.rise c.loop-row.row-index c.loop-row.invariant.rise;
}

pub returns : goal.returns
returns c = last_row _ c.loop-row.counts c.args.rows.now c.loop-row.row-index c.loop-row-test.false c.loop-row.invariant.so_far
