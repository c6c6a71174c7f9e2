use Rattle.std.proofs.Common.{◌≡◌, ◌++◌, ◌∷◌, [], All, subst, sym}
use Rattle.std.proofs.lemmas.List.Elements.{All-append}
use Rattle.mac_receive.specs.KeptReceiver.{KeptReception, Hears}
use Rattle.network.specs.Net.{new_receiver}
use Rattle.kept_devices.specs.KeptReceivers.{AllHear}
use Rattle.kept_devices.proofs.Receivers.{All-one}
use Rattle.net_step.proofs.KeptReceivers.{AllHear-new}
use Rattle.net_step.proofs.ResumedDevices.{count_more}
use Rattle.net_step.proofs.devices.new_receivers.Goals as goal

pub loop-station-preserved : goal.loop-station-preserved
loop-station-preserved c =
    let more : c.push.new.self.items ≡ c.loop-station.receivers.items ++ c.new_for.result ∷ [] = c.in_ok-push.ensures.items in
    let one : All (λ (r : KeptReception). r.steps ≡ 0) (c.new_for.result ∷ []) = All-one c.new_for.result c.new_for.ensures.steps in
    record {
      count = count_more _ _ _ c.loop-station.station-index c.loop-station.invariant.count more;
      steps = subst (All (λ (r : KeptReception). r.steps ≡ 0)) (sym more) (All-append (λ (r : KeptReception). r.steps ≡ 0) _ _ c.loop-station.invariant.steps one);
      receivers = subst (AllHear _) (sym more) (AllHear-new c.args.most c.args.stations.now c.loop-station.receivers.items c.loop-station.station-index c.station-item.result c.new_for.result c.loop-station-test.true c.loop-station.invariant.receivers (subst (λ s. Hears (new_receiver c.args.most s) c.new_for.result) c.station-item.is c.new_for.ensures.hears));
    }
