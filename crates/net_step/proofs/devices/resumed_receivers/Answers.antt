use Rattle.std.proofs.Common.{◌≡◌, ◌++◌, ◌∷◌, [], All, subst, sym, arith}
use Rattle.std.proofs.lemmas.List.Elements.{All-append}
use Rattle.mac_receive.specs.KeptReceiver.{KeptReception, Hears}
use Rattle.network.specs.Net.{new_receiver}
use Rattle.kept_devices.specs.KeptReceivers.{AllHear}
use Rattle.net_step.proofs.KeptReceivers.{AllHear-new, All-stepped}
use Rattle.net_step.proofs.QuietAndKept.{still_new}
use Rattle.net_step.proofs.ResumedDevices.{count_more}
use Rattle.net_step.proofs.devices.resumed_receivers.Goals as goal

pub leap_quiet-requires-clause-none : goal.leap_quiet-requires-clause-none
leap_quiet-requires-clause-none c = c.new_for-receiver.ensures.hears.count

pub loop-station-preserved : goal.loop-station-preserved
loop-station-preserved c =
    let t = c.args.t in
    let made = c.leap_quiet.new.self in
    let steps : made.steps ≡ t = omega (arith, c.leap_quiet.ensures.steps, c.new_for-receiver.ensures.steps) in
    let more : c.push.new.self.items ≡ c.loop-station.receivers.items ++ made ∷ [] = c.in_ok-push.ensures.items in
    let hears : Hears (new_receiver c.args.most c.station-item.result) made =
    subst (λ r. Hears r made) (still_new c.station-item.result.lose c.args.most t) (c.leap_quiet.ensures.state (new_receiver c.args.most c.station-item.result) c.new_for-receiver.ensures.hears) in
    record {
      count = count_more _ _ _ c.loop-station.station-index c.loop-station.invariant.count more;
      steps = subst (All (λ (r : KeptReception). r.steps ≡ t)) (sym more) (All-append (λ (r : KeptReception). r.steps ≡ t) _ _ c.loop-station.invariant.steps (All-stepped made t steps));
      receivers = subst (AllHear _) (sym more) (AllHear-new c.args.most c.args.stations.now c.loop-station.receivers.items c.loop-station.station-index c.station-item.result made c.loop-station-test.true c.loop-station.invariant.receivers (subst (λ s. Hears (new_receiver c.args.most s) made) c.station-item.is hears));
    }
