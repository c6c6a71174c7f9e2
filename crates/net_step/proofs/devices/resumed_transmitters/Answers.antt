use Rattle.std.proofs.Common.{◌≡◌, ap, arith}
use Rattle.mac_transmit.specs.Sender.{Sender}
use Rattle.net_step.proofs.ResumedDevices.{all_more, count_more, many_states, senders_more, state_read}
use Rattle.net_step.proofs.devices.resumed_transmitters.Goals as goal

pub bounds-states-k : goal.bounds-states-k
bounds-states-k c = let many = many_states c.args.queues.now c.args.states.now c.requires.ranges in let below = c.loop-k-test.true in omega (arith, many, below)

pub resume-requires-clause-ranges : goal.resume-requires-clause-ranges
resume-requires-clause-ranges c = state_read c.args.queues.now c.args.states.now c.loop-k.k c.index-queues-k.result _ _ c.requires.ranges c.loop-k-test.true c.index-queues-k.is c.in_ok-copy.ensures

pub loop-k-preserved : goal.loop-k-preserved
loop-k-preserved c =
    let many = many_states c.args.queues.now c.args.states.now c.requires.ranges in
    let below = c.loop-k-test.true in
    record {
      count = count_more _ _ _ c.loop-k.k c.loop-k.invariant.count c.in_ok-push.ensures.items;
      times = all_more (λ (s : Sender). s.t ≡ c.args.t) _ _ _ c.loop-k.invariant.times (ap (λ (s : Sender). s.t) c.resume.ensures) c.in_ok-push.ensures.items;
      senders = senders_more c.args.seed c.args.t c.loop-k.k c.args.queues.now c.args.states.now _ _ _ _ c.index-queues-k.result _ _ _ below (omega (arith, many, below)) c.index-queues-k.is
          c.loop-k.invariant.senders c.in_ok-push.ensures.items c.resume.ensures c.in_ok-copy.ensures c.at-draws.ensures;
    }
