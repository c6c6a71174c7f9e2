use Rattle.std.proofs.Common.{◌≡◌, ◌<◌, All, length, get_or, sym, subst, ap, ap₂, ◌∙◌, arith}
use Rattle.std.proofs.lemmas.List.Elements.{All-append}
use Rattle.mac_receive.specs.Receiver.{Receiving, new_receiving}
use Rattle.mac_receive.specs.KeptReceiver.{KeptReception, Hears}
use Rattle.net_parts.specs.Standing.{receiver_at}
use Rattle.kept_devices.proofs.Receivers.{All-one}
use Rattle.segment_engine.proofs.Beginnings.{receiver_new, hear_more}
use Rattle.segment_engine.proofs.start.receivers_of.Goals as goal

pub loop-station-preserved : goal.loop-station-preserved
loop-station-preserved c =
    let plan = c.args.plan.now in
    let ks = c.args.stations.now in
    let i = c.loop-station.station-index in
    let h : i < length ks = omega (arith, c.loop-station-test.true) in
    let k = get_or ks i 0 in
    let in_it : k < length plan.layout.stations = c.requires i 0 h in
    let d = c.index-lines-station.result in
    let same : receiver_at plan k 0 ≡ new_receiving (get_or c.as_slice-lines.result.now k d).lose c.most_octets-most.result =
    receiver_new plan k d in_it ∙ ap₂ new_receiving (sym (ap (λ xs. (get_or xs k d).lose) c.as_slice-lines.ensures)) (sym c.most_octets-most.ensures.value) in
    let y = c.in_ok-new_for.field-0 in
    let more = c.in_ok-push.ensures.items in
    record {
      steps = subst (All (λ (r : KeptReception). r.steps ≡ 0)) (sym more) (All-append (λ (r : KeptReception). r.steps ≡ 0) _ _ c.loop-station.invariant.steps (All-one y c.in_ok-new_for.ensures.steps));
      receivers = hear_more (λ j. receiver_at plan j 0) ks i c.loop-station.receivers.items c.push.new.self.items y h c.loop-station.invariant.receivers (subst (λ (r : Receiving). Hears r y) (sym same) c.in_ok-new_for.ensures.hears) more;
    }
