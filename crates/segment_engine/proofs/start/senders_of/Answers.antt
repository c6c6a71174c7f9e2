use Rattle.std.proofs.Common.{◌≡◌, ◌<◌, [], length, get_or, sym, ap, ap₂, ◌∙◌, arith}
use Rattle.std.proofs.lemmas.List.{get_or_default}
use Rattle.mac_transmit.specs.Sender.{new_sender}
use Rattle.network.specs.Attempts.{sender_at}
use Rattle.segment_engine.proofs.Beginnings.{sender_new, map_more}
use Rattle.segment_engine.proofs.start.senders_of.Goals as goal

pub loop-station-preserved : goal.loop-station-preserved
loop-station-preserved c =
    let plan = c.args.plan.now in
    let ks = c.args.stations.now in
    let i = c.loop-station.station-index in
    let h : i < length ks = omega (arith, c.loop-station-test.true) in
    let k = get_or ks i 0 in
    let in_it : k < length plan.layout.stations = c.requires i 0 h in
    let d = c.index-queues-station.result in
    let queued = plan.queued in
    let queue : c.in_ok-copy.field-0 ≡ get_or plan.queues k d = c.in_ok-copy.ensures ∙ c.index-queues-station.is ∙ ap (λ qs. get_or qs k d) c.as_slice-queues.ensures in
    let same = get_or_default plan.queues k d [] (omega (arith, in_it, queued)) in
    let now : c.new-in-loop-station.result ≡ sender_at plan k 0 = c.new-in-loop-station.ensures ∙ ap₂ new_sender (queue ∙ same) c.new.ensures ∙ sym (sender_new plan k in_it) in
    map_more (λ j. sender_at plan j 0) ks i c.loop-station.senders.items c.push.new.self.items c.new-in-loop-station.result h c.loop-station.invariant now c.in_ok-push.ensures.items
