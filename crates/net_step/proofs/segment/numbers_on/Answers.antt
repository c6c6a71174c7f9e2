use Rattle.net_step.proofs.CablePlaces.{numbers_more, numbers_same}
use Rattle.net_step.proofs.segment.numbers_on.Goals as goal

pub loop-k-preserved : goal.loop-k-preserved
loop-k-preserved c = numbers_more c.args.segment c.loop-k.k c.args.taps.now _ _ _ _ c.loop-k-test.true c.if-taps-k.false c.loop-k.invariant c.in_ok-push.ensures.items

pub loop-k-preserved-then-taps-k : goal.loop-k-preserved-then-taps-k
loop-k-preserved-then-taps-k c = numbers_same c.args.segment c.loop-k.k c.args.taps.now _ _ _ c.loop-k-test.true c.if-taps-k.true c.loop-k.invariant
