use Rattle.std.proofs.Common.{sym, ap, set, ◌∙◌, arith}
use Rattle.collision_log.specs.Counters.{no_counts}
use Rattle.run_texts.proofs.CountedRows.{counted_at, counted_past}
use Rattle.run_texts.proofs.counts.count_row.Goals as goal

pub returns-then-device-counts-clause-counts : goal.returns-then-device-counts-clause-counts
returns-then-device-counts-clause-counts c =
    let counts = c.args.counts.now in
    let row = c.args.row.now in
    ap (λ x. set counts row.device x) c.count.ensures.counts ∙ sym (counted_at 0 counts row row.device no_counts c.if-device-counts.true (omega arith))

pub returns-else-device-counts-clause-counts : goal.returns-else-device-counts-clause-counts
returns-else-device-counts-clause-counts c = sym (counted_past 0 c.args.counts.now c.args.row.now (omega arith))
