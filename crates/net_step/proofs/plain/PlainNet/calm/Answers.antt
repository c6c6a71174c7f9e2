use Rattle.std.proofs.Common.{◌≡◌, All, sym, subst, arith, rules}
use Rattle.mac_transmit.specs.Sender.{Sender}
use Rattle.mac_receive.specs.KeptReceiver.{KeptReception}
use Rattle.repeater_core.specs.Calm.{IsCalm}
use Rattle.repeater_core.specs.Step.{RepeaterDevice}
use Rattle.net_step.specs.CalmNets.{IsCalmNet, WaitsFor}
use Rattle.net_step.proofs.LeapsStand.{waits_fewer}
use Rattle.net_step.proofs.plain.PlainNet.calm.Goals as goal

pub returns-clause-calm : goal.returns-clause-calm
returns-clause-calm c = λ some.
    let n = c.calm_relays.result in
    let m = c.calm_senders-calm.result in
    let fewer = c.calm_relays.ensures.within in
    let waits : All (WaitsFor m) c.self.inside.senders.items = subst (All (WaitsFor m)) c.deref-2.ensures.value (c.calm_senders-calm.ensures.calm (omega (arith, some, fewer))) in
    subst (IsCalmNet n) c.self.view_is (record {
      settled = (let early = c.if-heard_from-self.false in let since = c.saturating_sub-heard_from.ensures in let place = c.from.ensures in omega (arith, early, since, place));
      senders = λ i d l. waits_fewer m n _ fewer (waits i d l);
      receivers = subst (All (λ (k : KeptReception). k.halves ≡ 0)) c.deref.ensures.value (c.none_receives.ensures.0 c.if-not-none_receives.false);
      repeaters = subst (All (λ (r : RepeaterDevice). IsCalm r n)) c.deref-3.ensures.value c.calm_relays.ensures.calm;
    })
