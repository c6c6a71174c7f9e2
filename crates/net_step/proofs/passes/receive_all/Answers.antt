use Rattle.std.proofs.Common.{◌≡◌, length, get_or, subst, sym, ◌∙◌, arith, rules}
use Rattle.std.proofs.lemmas.List.{take_all}
use Rattle.manchester_line.specs.declared.Sym.TheVariants.{Idle}
use Rattle.manchester_line.specs.Line.{is_signal}
use Rattle.mac_receive.specs.Receiver.{Receiving, new_receiving, receiver_step}
use Rattle.mac_receive.specs.KeptReceiver.{KeptReception, Hears}
use Rattle.net_step.specs.KeptNet.{Gives}
use Rattle.kept_devices.proofs.ChangedElements.{one_later, get_or-rest, rest-set}
use Rattle.kept_devices.proofs.Receivers.{length-AllHear, AllHear-at}
use Rattle.net_step.proofs.KeptReceivers.{AllGive-next, Lends-from}
use Rattle.net_step.proofs.passes.receive_all.Goals as goal

pub loop-k-preserved : goal.loop-k-preserved
loop-k-preserved c =
    let k = c.loop-k.k in
    let e = c.index-receivers-k.result in
    let d : Receiving = new_receiving 0 0 in
    let all =
    one_later (λ (r : KeptReception). r.steps) c.args.t c.loop-k.receivers k c.step.new.self e (omega arith)
    c.loop-k.invariant.stepped c.loop-k.invariant.waiting c.step.ensures.steps in
    let same : get_or c.loop-k.receivers k e ≡ get_or c.args.receivers.now k e = get_or-rest c.loop-k.receivers c.args.receivers.now k e c.loop-k.invariant.rest in
    record {
      len = search rules;
      len_received = search rules;
      stepped = all.0;
      waiting = all.1;
      rest = rest-set c.loop-k.receivers c.args.receivers.now k c.step.new.self c.loop-k.invariant.rest;
      given = λ rs h.
          let r = get_or rs k d in
          let stands : Hears r (get_or c.loop-k.receivers k e) = subst (λ (x : KeptReception). Hears r x) (sym same) (AllHear-at rs c.args.receivers.now k d e h (omega arith)) in
          let few : length rs ≡ length c.args.receivers.now = length-AllHear rs c.args.receivers.now h in
          let signal : c.is_signal.result ≡ is_signal (get_or c.args.emitted.now k Idle) = c.is_signal.ensures in
          let gives : Gives (receiver_step r (get_or c.args.heard.now k Idle) c.is_signal.result) c.step.new.self c.step.result = record {
            hears = c.step.ensures.state r stands;
            event = c.step.ensures.event r stands;
            lends = Lends-from _ _ _ (λ n e. c.step.ensures.octets r n stands (c.step.ensures.event r stands ∙ e));
          } in
          AllGive-next c.args.heard.now c.args.emitted.now rs c.loop-k.receivers c.loop-k.received k Idle Idle d c.step.new.self c.step.result (omega arith) (omega arith) (omega arith) (omega arith) (omega arith)
          (c.loop-k.invariant.given rs h) (subst (λ x. Gives (receiver_step r (get_or c.args.heard.now k Idle) x) c.step.new.self c.step.result) signal gives);
    }

pub returns-clause-steps : goal.returns-clause-steps
returns-clause-steps c = rw (take_all c.loop-k.k c.loop-k.receivers (omega arith)) at c.loop-k.invariant.stepped

pub returns-clause-given : goal.returns-clause-given
returns-clause-given c = λ rs h.
    let k = c.loop-k.k in
    let few : length rs ≡ length c.args.receivers.now = length-AllHear rs c.args.receivers.now h in
    rw (take_all k c.args.heard.now (omega arith), take_all k c.args.emitted.now (omega arith), take_all k rs (omega arith), take_all k c.loop-k.receivers (omega arith), take_all k c.loop-k.received (omega arith)) at (c.loop-k.invariant.given rs h)
