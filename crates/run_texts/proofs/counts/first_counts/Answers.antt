use Rattle.run_texts.proofs.CountedRows.{next_station}
use Rattle.run_texts.proofs.counts.first_counts.Goals as goal

pub loop-k-preserved : goal.loop-k-preserved
loop-k-preserved c = let p = c.in_ok-push.ensures.items in let s = c.station_counts.ensures in
    next_station c.args.plan.now.queues c.args.plan.now.skips c.loop-k.k _ _ _ _ _ c.get.ensures c.get-in-loop-k.ensures c.loop-k.invariant (rw (← s) p)
