use Rattle.std.proofs.Common.{◌<◌, length, arith}
use Rattle.repeater_core.proofs.SteadyLeap.{sent_at}
use Rattle.repeater_core.proofs.steady.leap_counts.Goals as goal

pub leap-requires : goal.leap-requires
leap-requires c =
    let l : c.loop-k.k < length c.args.counts.now = omega arith in
    let m : c.loop-k.k < length c.args.decided.now = omega arith in
    sent_at c.args.n c.loop-k.k c.is_signal.result c.args.decided.now c.args.counts.now c.loop-k.counts _ _ l m c.loop-k.invariant.behind c.requires.sent c.is_signal.ensures
