use Rattle.std.proofs.Common.{◌≡◌, ap}
use Rattle.mac_transmit.specs.Sender.{Sender}
use Rattle.net_step.proofs.ResumedDevices.{all_more, count_more, new_senders_more}
use Rattle.net_step.proofs.devices.new_transmitters.Goals as goal

pub loop-k-preserved : goal.loop-k-preserved
loop-k-preserved c = record {
  count = count_more _ _ _ c.loop-k.k c.loop-k.invariant.count c.in_ok-push.ensures.items;
  times = all_more (λ (s : Sender). s.t ≡ 0) _ _ _ c.loop-k.invariant.times (ap (λ (s : Sender). s.t) c.new.ensures) c.in_ok-push.ensures.items;
  senders = new_senders_more c.args.seed c.loop-k.k c.args.queues.now _ _ _ _ c.index-queues-k.result _ _ c.loop-k-test.true c.index-queues-k.is
      c.loop-k.invariant.senders c.in_ok-push.ensures.items c.new.ensures c.in_ok-copy.ensures c.new-draws.ensures;
}
