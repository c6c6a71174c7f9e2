use Rattle.std.proofs.Common.{◌∙◌, sym, arith}
use Rattle.run_checkpoint.proofs.EntriesSteps.{one_ends, one_other}
use Rattle.run_checkpoint.proofs.row_order.do_all_end.Goals as goal

pub returns-then-ended-k : goal.returns-then-ended-k
returns-then-ended-k c rows is = sym (c.stations.invariant rows is ∙ one_other c.args.senders.now c.args.ended.now c.stations.k rows c.stations-test.true is (λ e. omega (arith, c.if-ended-k.true, e)))

pub stations-preserved : goal.stations-preserved
stations-preserved c rows is = c.stations.invariant rows is ∙ one_ends c.args.senders.now c.args.ended.now c.stations.k rows c.stations-test.true is (omega (arith, c.if-ended-k.false))
