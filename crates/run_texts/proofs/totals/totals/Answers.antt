use Rattle.run_texts.proofs.DeviceSums.{next_device}
use Rattle.run_texts.proofs.totals.totals.Goals as goal

pub loop-counters-preserved : goal.loop-counters-preserved
loop-counters-preserved c = next_device c.args.counts.now c.loop-counters.counters-index _ c.loop-counters.sums _ c.loop-counters-test.true c.loop-counters.invariant c.in_ok-sums.ensures
