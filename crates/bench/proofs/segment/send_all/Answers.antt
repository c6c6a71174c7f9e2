use Rattle.std.proofs.Common.{arith}
use Rattle.std.proofs.lemmas.Grind.{common_steps}
use Rattle.mac_transmit.specs.Sender.{Sender}
use Rattle.kept_devices.proofs.ChangedElements.{one_later}
use Rattle.bench.proofs.segment.send_all.Goals as goal

pub loop-k-preserved : goal.loop-k-preserved
loop-k-preserved c =
    let all =
    one_later (λ (s : Sender). s.t) c.args.t c.loop-k.senders c.loop-k.k c.step-step.new.self c.index-senders-k.result (omega arith)
    c.loop-k.invariant.stepped c.loop-k.invariant.waiting c.step-step.ensures.time in
    record {
      places = grind (arith, common_steps);
      stepped = all.0;
      waiting = all.1;
    }
