use Rattle.std.proofs.Common.{◌≡◌, ℕ, ◌+◌, ◌<◌, All, false, List, length, map, replicate, get_or, sym, subst, ap, ◌∙◌, arith, rules}
use Rattle.std.specs.Fn.{iterate}
use Rattle.std.specs.Vec.{with_items}
use Rattle.std.proofs.lemmas.List.{with_items_is, length-map}
use Rattle.manchester_line.specs.declared.Sym.TheVariants.{Idle}
use Rattle.mac_transmit.specs.Sender.{Sender}
use Rattle.mac_transmit.specs.Calm.{after_all}
use Rattle.mac_receive.specs.KeptReceiver.{KeptReception, Hears}
use Rattle.mac_receive.specs.Receiver.{Receiving, receiver_after}
use Rattle.repeater_core.specs.Calm.{IsCalm, silent_step}
use Rattle.repeater_core.specs.Step.{RepeaterDevice}
use Rattle.network.specs.Net.{Net}
use Rattle.quiet_state.specs.Resumed.{later_net}
use Rattle.net_step.specs.CalmNets.{IsCalmNet, WaitsFor}
use Rattle.net_step.specs.KeptNet.{KeptNet, Stands}
use Rattle.net_step.proofs.LeapsStand.{silent_half_bit, stands_leapt, whole_leapt}
use Rattle.net_step.proofs.WholeNet.{kept_of}
use Rattle.net_step.proofs.plain.PlainNet.leap.Goals as goal

pub leap_senders-requires-clause-calm : goal.leap_senders-requires-clause-calm
leap_senders-requires-clause-calm c = subst (All (WaitsFor c.args.count)) (sym c.deref_mut.ensures.value) (subst (IsCalmNet c.args.count) (sym c.self.view_is) c.requires.calm).senders

pub leap_receivers-requires-clause-rest : goal.leap_receivers-requires-clause-rest
leap_receivers-requires-clause-rest c = subst (All (λ (k : KeptReception). k.halves ≡ 0)) (sym c.deref_mut-2.ensures.value) (subst (IsCalmNet c.args.count) (sym c.self.view_is) c.requires.calm).receivers

pub leap_relays-requires : goal.leap_relays-requires
leap_relays-requires c = subst (All (λ (r : RepeaterDevice). IsCalm r c.args.count)) (sym c.deref_mut-3.ensures.value) (subst (IsCalmNet c.args.count) (sym c.self.view_is) c.requires.calm).repeaters

pub invariant_of-self : goal.invariant_of-self
invariant_of-self c =
    let q = c.self.inside in
    let m = c.args.count in
    let senders = with_items_is q.senders c.leap_senders.new.senders (search rules) in
    let receivers = with_items_is q.receivers c.leap_receivers.new.receivers (search rules) in
    let relays = with_items_is q.relays c.leap_relays.new.relays (search rules) in
    let first : KeptNet = record { t = q.t; senders = q.senders.items; receivers = q.receivers.items; repeaters = q.relays.items; wires = q.segments.items; places = q.places.items; rows = q.rows; captures = q.captures.items; reaches = q.settling.reaches.items; delays = q.settling.delays.items; settled = q.settling.settled } in
    whole_leapt first m (with_items q.senders c.leap_senders.new.senders).items (with_items q.receivers c.leap_receivers.new.receivers).items (with_items q.relays c.leap_relays.new.relays).items _ _ _ _ _ _ _ _ c.self.invariant
    (kept_of length senders c.leap_senders.auto.senders c.deref_mut.ensures.value)
    (kept_of length receivers c.leap_receivers.auto.receivers c.deref_mut-2.ensures.value)
    (kept_of (map (λ (x : RepeaterDevice). length x.guards)) relays c.leap_relays.ensures.ports c.deref_mut-3.ensures.value)
    (subst (All (λ (s : Sender). s.t ≡ q.t + m)) (sym senders) c.leap_senders.ensures.times)
    (subst (All (λ (r : KeptReception). r.steps ≡ q.t + m)) (sym receivers) c.leap_receivers.ensures.steps)

pub returns-clause-stands : goal.returns-clause-stands
returns-clause-stands c = λ n st.
    let q = c.self.inside in
    let m = c.args.count in
    let senders = with_items_is q.senders c.leap_senders.new.senders (search rules) in
    let receivers = with_items_is q.receivers c.leap_receivers.new.receivers (search rules) in
    let relays = with_items_is q.relays c.leap_relays.new.relays (search rules) in
    let first : KeptNet = record { t = q.t; senders = q.senders.items; receivers = q.receivers.items; repeaters = q.relays.items; wires = q.segments.items; places = q.places.items; rows = q.rows; captures = q.captures.items; reaches = q.settling.reaches.items; delays = q.settling.delays.items; settled = q.settling.settled } in
    let now : Stands n first = subst (Stands n) (sym c.self.view_is) st in
    let calm : IsCalmNet m first = subst (IsCalmNet m) (sym c.self.view_is) c.requires.calm in
    let states : c.leap_relays.new.relays ≡ map (iterate silent_step m) q.relays.items = c.leap_relays.ensures.states ∙ ap (map (iterate silent_step m)) c.deref_mut-3.ensures.value in
    let ports : map (λ (x : RepeaterDevice). length x.guards) (map (iterate silent_step m) q.relays.items) ≡ map (λ (x : RepeaterDevice). length x.guards) q.relays.items =
    sym (ap (map (λ (x : RepeaterDevice). length x.guards)) states) ∙ c.leap_relays.ensures.ports ∙ ap (map (λ (x : RepeaterDevice). length x.guards)) c.deref_mut-3.ensures.value in
    stands_leapt m n first _ _ _ _ _ _ _ _ c.self.invariant calm now ports
    (with_items q.senders c.leap_senders.new.senders).items (with_items q.receivers c.leap_receivers.new.receivers).items (with_items q.relays c.leap_relays.new.relays).items
    (senders ∙ c.leap_senders.ensures.states ∙ ap (map (λ (x : Sender). after_all x (replicate m Idle))) c.deref_mut.ensures.value)
    (kept_of length receivers c.leap_receivers.auto.receivers c.deref_mut-2.ensures.value)
    (λ i d r l here.
    subst (λ (xs : List KeptReception). Hears (receiver_after r (replicate m Idle) false) (get_or xs i d)) (sym receivers)
    (c.leap_receivers.ensures.states i d r (let size = ap length receivers in omega (arith, l, size)) (subst (λ (xs : List KeptReception). Hears r (get_or xs i d)) (sym c.deref_mut-2.ensures.value) here)))
    (relays ∙ states)

pub returns-clause-silent : goal.returns-clause-silent
returns-clause-silent c = λ n st i below.
    let q = c.self.inside in
    let m = c.args.count in
    let first : KeptNet = record { t = q.t; senders = q.senders.items; receivers = q.receivers.items; repeaters = q.relays.items; wires = q.segments.items; places = q.places.items; rows = q.rows; captures = q.captures.items; reaches = q.settling.reaches.items; delays = q.settling.delays.items; settled = q.settling.settled } in
    let now : Stands n first = subst (Stands n) (sym c.self.view_is) st in
    let calm : IsCalmNet m first = subst (IsCalmNet m) (sym c.self.view_is) c.requires.calm in
    let states : c.leap_relays.new.relays ≡ map (iterate silent_step m) q.relays.items = c.leap_relays.ensures.states ∙ ap (map (iterate silent_step m)) c.deref_mut-3.ensures.value in
    let ports : map (λ (x : RepeaterDevice). length x.guards) (map (iterate silent_step m) q.relays.items) ≡ map (λ (x : RepeaterDevice). length x.guards) q.relays.items =
    sym (ap (map (λ (x : RepeaterDevice). length x.guards)) states) ∙ c.leap_relays.ensures.ports ∙ ap (map (λ (x : RepeaterDevice). length x.guards)) c.deref_mut-3.ensures.value in
    silent_half_bit m n first _ _ _ _ _ _ _ _ c.self.invariant calm now ports i below
