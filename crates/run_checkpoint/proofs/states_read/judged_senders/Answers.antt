use Rattle.std.proofs.Common.{◌∙◌, ◌+◌, ap, drop, inl}
use Rattle.run_checkpoint.specs.Judging.{judged_senders}
use Rattle.run_checkpoint.proofs.SenderSteps.{sender_missing}
use Rattle.run_checkpoint.proofs.states_read.judged_senders.Goals as goal

pub returns-in_default-clause-judged : goal.returns-in_default-clause-judged
returns-in_default-clause-judged c =
    let k = c.stations.k in
    inl (c.stations.invariant.judged
    ∙ (ap (λ ls. judged_senders (k + 2) c.stations.senders (drop k c.args.stations.now) (drop k c.args.queues.now) ls) c.in_default.ensures.none
    ∙ sender_missing (k + 2) c.stations.senders k c.args.stations.now c.args.queues.now c.stations-test.true c.requires.many))
