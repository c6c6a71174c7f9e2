use Rattle.std.proofs.Common.{◌≡◌, ◌+◌, ◌<◌, ◌++◌, max, All, List, length, map, take, drop, refl, sym, subst, ap, ap₂, ◌∙◌, arith}
use Rattle.std.specs.List.{flat_map}
use Rattle.std.specs.Prelude.{Option}
use Rattle.std.specs.Vec.{with_items}
use Rattle.std.proofs.lemmas.Result.{on_ok_weaker}
use Rattle.manchester_line.specs.declared.Sym.{Sym}
use Rattle.collision_log.specs.declared.row.Body.{Body}
use Rattle.collision_log.specs.declared.row.Row.{Row}
use Rattle.mac_transmit.specs.Sender.{Sender, SendOutcome}
use Rattle.mac_receive.specs.KeptReceiver.{KeptReception, kept_octets}
use Rattle.repeater_core.specs.Step.{RepeaterDevice, after, decided_by, emitted_by}
use Rattle.mac_parameters.specs.Parameters.{most_half_bits}
use Rattle.net_step.specs.declared.places.TapOnSegment.{TapOnSegment}
use Rattle.network.specs.declared.outputs.Taken.{Taken}
use Rattle.network.specs.Net.{sendings, each_repeater, ports_of}
use Rattle.network.specs.Captures.{captured}
use Rattle.network.specs.Rows.{repeater_rows, repeater_bodies, rows_of}
use Rattle.net_step.specs.Wires.{Wire, IsPlaced, heard_at_place, carried}
use Rattle.net_step.specs.KeptNet.{KeptNet, stations_hear_kept, ports_hear_kept, all_told, over_from, IsNextKept, IsWhole}
use Rattle.net_step.proofs.KeptReceivers.{given-alike}
use Rattle.net_step.proofs.StandsForNet.{goes_on}
use Rattle.net_step.proofs.WholeNet.{kept_of, whole_next}
use Rattle.net_step.proofs.WrittenLists.{same_items, still_many, written_over}
use Rattle.net_step.proofs.plain.PlainNet.go_on.Goals as goal
use Rattle.net_step.proofs.plain.PlainNet.go_on.Goals.{After-log_all}

-- what the passes ask for: the lists of a half bit have one entry for each device or tap
pub hear_all-requires-clause-len : goal.hear_all-requires-clause-len
hear_all-requires-clause-len c = ap length c.deref_mut.ensures.value ∙ c.self.invariant.hearing ∙ sym (ap length c.deref-2.ensures.value)

pub hear_all-requires-clause-placed : goal.hear_all-requires-clause-placed
hear_all-requires-clause-placed c =
    subst (λ (ws : List Wire). All (IsPlaced ws) c.deref-2.result.now) (sym c.deref.ensures.value)
    (subst (All (IsPlaced c.self.inside.segments.items)) (sym c.deref-2.ensures.value) c.self.invariant.placed)

pub split_at-requires : goal.split_at-requires
split_at-requires c =
    let w = c.self.invariant in
    let heard = still_many c.self.inside.heard _ c.hear_all.new.heard _ _ c.hear_all.auto.heard c.deref_mut.ensures.value c.deref-3.ensures.value w.hearing in
    omega (arith, c.len.ensures, c.self.inside.senders.ok.0, heard, w.taps)

pub step_stations-requires-clause-heard_len : goal.step_stations-requires-clause-heard_len
step_stations-requires-clause-heard_len c = c.split_at.ensures.front_len ∙ c.len.ensures ∙ c.self.inside.senders.ok.0 ∙ sym (ap length c.deref_mut-2.ensures.value)

pub step_stations-requires-clause-receivers_len : goal.step_stations-requires-clause-receivers_len
step_stations-requires-clause-receivers_len c = ap length c.deref_mut-3.ensures.value ∙ c.self.invariant.receiving ∙ sym (ap length c.deref_mut-2.ensures.value)

pub step_stations-requires-clause-emitted_len : goal.step_stations-requires-clause-emitted_len
step_stations-requires-clause-emitted_len c = ap length c.deref_mut-4.ensures.value ∙ c.self.invariant.emitting ∙ sym (ap length c.deref_mut-2.ensures.value)

pub step_stations-requires-clause-sent_len : goal.step_stations-requires-clause-sent_len
step_stations-requires-clause-sent_len c = ap length c.deref_mut-5.ensures.value ∙ c.self.invariant.sending ∙ sym (ap length c.deref_mut-2.ensures.value)

pub step_stations-requires-clause-received_len : goal.step_stations-requires-clause-received_len
step_stations-requires-clause-received_len c = ap length c.deref_mut-6.ensures.value ∙ c.self.invariant.hearing_out ∙ sym (ap length c.deref_mut-2.ensures.value)

pub step_stations-requires-clause-times : goal.step_stations-requires-clause-times
step_stations-requires-clause-times c = subst (All (λ (s : Sender). s.t ≡ c.self.inside.t)) (sym c.deref_mut-2.ensures.value) c.self.invariant.times

pub step_stations-requires-clause-steps : goal.step_stations-requires-clause-steps
step_stations-requires-clause-steps c = subst (All (λ (r : KeptReception). r.steps ≡ c.self.inside.t)) (sym c.deref_mut-3.ensures.value) c.self.invariant.steps

pub step_stations-requires-clause-in_time : goal.step_stations-requires-clause-in_time
step_stations-requires-clause-in_time c = subst (λ (k : KeptNet). k.t < most_half_bits) (sym c.self.view_is) c.requires

pub relay_all-requires-clause-heard_len : goal.relay_all-requires-clause-heard_len
relay_all-requires-clause-heard_len c =
    let w = c.self.invariant in
    let heard = still_many c.self.inside.heard _ c.hear_all.new.heard _ _ c.hear_all.auto.heard c.deref_mut.ensures.value c.deref-3.ensures.value w.hearing in
    omega (arith, c.split_at.ensures.back_len, c.len.ensures, c.self.inside.senders.ok.0, heard, w.taps, ap ports_of c.deref_mut-7.ensures.value)

pub relay_all-requires-clause-emitted_len : goal.relay_all-requires-clause-emitted_len
relay_all-requires-clause-emitted_len c =
    let w = c.self.invariant in
    let heard = still_many c.self.inside.heard _ c.hear_all.new.heard _ _ c.hear_all.auto.heard c.deref_mut.ensures.value c.deref-3.ensures.value w.hearing in
    omega (arith, c.split_at.ensures.back_len, c.len.ensures, c.self.inside.senders.ok.0, heard, w.taps, ap length c.deref_mut-8.ensures.value, w.port_emitting)

pub relay_all-requires-clause-decided_len : goal.relay_all-requires-clause-decided_len
relay_all-requires-clause-decided_len c =
    let w = c.self.invariant in
    let heard = still_many c.self.inside.heard _ c.hear_all.new.heard _ _ c.hear_all.auto.heard c.deref_mut.ensures.value c.deref-3.ensures.value w.hearing in
    omega (arith, c.split_at.ensures.back_len, c.len.ensures, c.self.inside.senders.ok.0, heard, w.taps, ap length c.deref_mut-9.ensures.value, w.deciding)

pub relay_all-requires-clause-events_len : goal.relay_all-requires-clause-events_len
relay_all-requires-clause-events_len c = ap length c.deref_mut-10.ensures.value ∙ c.self.invariant.happening ∙ sym (ap length c.deref_mut-7.ensures.value)

pub join-requires : goal.join-requires
join-requires c =
    let w = c.self.invariant in
    let emitted = still_many c.self.inside.emitted _ c.step_stations.new.emitted _ _ c.step_stations.auto.emitted c.deref_mut-4.ensures.value c.deref-4.ensures.value w.emitting in
    let port_emitted = still_many c.self.inside.port_emitted _ c.relay_all.new.emitted _ _ c.relay_all.auto.emitted c.deref_mut-8.ensures.value c.deref-5.ensures.value w.port_emitting in
    omega (arith, emitted, port_emitted, ap length c.deref_mut-11.ensures.value, w.carrying, w.taps)

pub carry_all-requires : goal.carry_all-requires
carry_all-requires c =
    let w = c.self.invariant in
    let row = still_many c.self.inside.row _ c.join.new.row _ _ c.join.auto.row c.deref_mut-11.ensures.value c.deref-6.ensures.value w.carrying in
    subst (λ m. All (λ (x : Wire). All (λ q. q < m) x.taps) c.deref_mut-12.result.now) (sym row)
    (subst (All (λ (x : Wire). All (λ q. q < length c.self.inside.places.items) x.taps)) (sym c.deref_mut-12.ensures.value) w.known)

pub pass-requires : goal.pass-requires
pass-requires c = subst (λ (k : KeptNet). k.t < most_half_bits) (sym c.self.view_is) c.requires

pub log_all-requires-clause-stations_len : goal.log_all-requires-clause-stations_len
log_all-requires-clause-stations_len c =
    let w = c.self.invariant in
    let sent = still_many c.self.inside.sent _ c.step_stations.new.sent _ _ c.step_stations.auto.sent c.deref_mut-5.ensures.value c.deref-9.ensures.value w.sending in
    let received = still_many c.self.inside.received _ c.step_stations.new.received _ _ c.step_stations.auto.received c.deref_mut-6.ensures.value c.deref-10.ensures.value w.hearing_out in
    sent ∙ sym received

pub log_all-requires-clause-repeaters_len : goal.log_all-requires-clause-repeaters_len
log_all-requires-clause-repeaters_len c =
    let w = c.self.invariant in
    let relays = still_many c.self.inside.relays _ c.relay_all.new.relays _ _ c.relay_all.auto.relays c.deref_mut-7.ensures.value c.deref-11.ensures.value refl in
    let events = still_many c.self.inside.events _ c.relay_all.new.events _ _ c.relay_all.auto.events c.deref_mut-10.ensures.value c.deref-12.ensures.value w.happening in
    events ∙ sym relays

pub log_all-requires-clause-few : goal.log_all-requires-clause-few
log_all-requires-clause-few c =
    let w = c.self.invariant in
    let sent = still_many c.self.inside.sent _ c.step_stations.new.sent _ _ c.step_stations.auto.sent c.deref_mut-5.ensures.value c.deref-9.ensures.value w.sending in
    let relays = still_many c.self.inside.relays _ c.relay_all.new.relays _ _ c.relay_all.auto.relays c.deref_mut-7.ensures.value c.deref-11.ensures.value refl in
    omega (arith, sent, relays, w.few_devices)

pub capture_all-requires-clause-len : goal.capture_all-requires-clause-len
capture_all-requires-clause-len c =
    let w = c.self.invariant in
    let received = still_many c.self.inside.received _ c.step_stations.new.received _ _ c.step_stations.auto.received c.deref_mut-6.ensures.value c.deref-13.ensures.value w.hearing_out in
    omega (arith, received, ap length c.deref_mut-13.ensures.value, w.capturing)

pub capture_all-requires-clause-receivers_len : goal.capture_all-requires-clause-receivers_len
capture_all-requires-clause-receivers_len c =
    let w = c.self.invariant in
    let receivers = still_many c.self.inside.receivers _ c.step_stations.new.receivers _ _ c.step_stations.auto.receivers c.deref_mut-3.ensures.value c.deref-14.ensures.value w.receiving in
    omega (arith, receivers, ap length c.deref_mut-13.ensures.value, w.capturing)

-- what is kept after the half bit, with these captures
abbrev kept_later : (c : After-log_all) → List (List Taken) → KeptNet
kept_later c captures =
    let q = c.self.inside in
    record {
      t = q.t + 1;
      senders = (with_items q.senders c.step_stations.new.senders).items;
      receivers = (with_items q.receivers c.step_stations.new.receivers).items;
      repeaters = (with_items q.relays c.relay_all.new.relays).items;
      wires = (with_items q.segments c.carry_all.new.segments).items;
      places = q.places.items;
      rows = c.log_all.new.rows;
      captures = captures;
      reaches = c.pass.new.self.reaches.items;
      delays = c.pass.new.self.delays.items;
      settled = c.pass.new.self.settled;
    }

guards_kept : (c : After-log_all) → map (λ (x : RepeaterDevice). length x.guards) (with_items c.self.inside.relays c.relay_all.new.relays).items ≡ map (λ (x : RepeaterDevice). length x.guards) c.self.inside.relays.items
guards_kept c = kept_of (map (λ (x : RepeaterDevice). length x.guards)) (written_over c.self.inside.relays _ c.relay_all.new.relays c.relay_all.auto.relays c.deref_mut-7.ensures.value) c.relay_all.ensures.ports c.deref_mut-7.ensures.value

-- it is whole, where there are as many captures as before
whole_later : (c : After-log_all) (captures : List (List Taken)) → length captures ≡ length c.self.inside.captures.items →
    IsWhole (kept_later c captures) (length (with_items c.self.inside.heard c.hear_all.new.heard).items) (length (with_items c.self.inside.emitted c.step_stations.new.emitted).items)
    (length (with_items c.self.inside.port_emitted c.relay_all.new.emitted).items) (length (with_items c.self.inside.decided c.relay_all.new.decided).items)
    (length (with_items c.self.inside.row c.join.new.row).items) (length (with_items c.self.inside.sent c.step_stations.new.sent).items)
    (length (with_items c.self.inside.received c.step_stations.new.received).items) (length (with_items c.self.inside.events c.relay_all.new.events).items)
whole_later c captures as_many =
    let q = c.self.inside in
    let wires : (with_items q.segments c.carry_all.new.segments).items ≡ map (carried c.deref-6.result.now) q.segments.items =
    written_over q.segments _ c.carry_all.new.segments c.carry_all.auto.segments c.deref_mut-12.ensures.value ∙ c.carry_all.ensures ∙ ap (map (carried c.deref-6.result.now)) c.deref_mut-12.ensures.value in
    whole_next _ _ c.deref-6.result.now _ _ _ _ _ _ _ _ _ _ _ _ _ _ _ _ c.self.invariant refl wires
    (kept_of length (written_over q.senders _ c.step_stations.new.senders c.step_stations.auto.senders c.deref_mut-2.ensures.value) c.step_stations.auto.senders c.deref_mut-2.ensures.value)
    (kept_of length (written_over q.receivers _ c.step_stations.new.receivers c.step_stations.auto.receivers c.deref_mut-3.ensures.value) c.step_stations.auto.receivers c.deref_mut-3.ensures.value)
    as_many (guards_kept c)
    (kept_of length (written_over q.heard _ c.hear_all.new.heard c.hear_all.auto.heard c.deref_mut.ensures.value) c.hear_all.auto.heard c.deref_mut.ensures.value)
    (kept_of length (written_over q.emitted _ c.step_stations.new.emitted c.step_stations.auto.emitted c.deref_mut-4.ensures.value) c.step_stations.auto.emitted c.deref_mut-4.ensures.value)
    (kept_of length (written_over q.port_emitted _ c.relay_all.new.emitted c.relay_all.auto.emitted c.deref_mut-8.ensures.value) c.relay_all.auto.emitted c.deref_mut-8.ensures.value)
    (kept_of length (written_over q.decided _ c.relay_all.new.decided c.relay_all.auto.decided c.deref_mut-9.ensures.value) c.relay_all.auto.decided c.deref_mut-9.ensures.value)
    (kept_of length (written_over q.row _ c.join.new.row c.join.auto.row c.deref_mut-11.ensures.value) c.join.auto.row c.deref_mut-11.ensures.value)
    (kept_of length (written_over q.sent _ c.step_stations.new.sent c.step_stations.auto.sent c.deref_mut-5.ensures.value) c.step_stations.auto.sent c.deref_mut-5.ensures.value)
    (kept_of length (written_over q.received _ c.step_stations.new.received c.step_stations.auto.received c.deref_mut-6.ensures.value) c.step_stations.auto.received c.deref_mut-6.ensures.value)
    (kept_of length (written_over q.events _ c.relay_all.new.events c.relay_all.auto.events c.deref_mut-10.ensures.value) c.relay_all.auto.events c.deref_mut-10.ensures.value)
    (subst (All (λ (s : Sender). s.t ≡ q.t + 1)) (sym (written_over q.senders _ c.step_stations.new.senders c.step_stations.auto.senders c.deref_mut-2.ensures.value)) c.step_stations.ensures.times)
    (subst (All (λ (r : KeptReception). r.steps ≡ q.t + 1)) (sym (written_over q.receivers _ c.step_stations.new.receivers c.step_stations.auto.receivers c.deref_mut-3.ensures.value)) c.step_stations.ensures.steps)

pub invariant_of-self : goal.invariant_of-self
invariant_of-self c = whole_later (goal.at.invariant_of-self c).After-log_all c.self.inside.captures.items refl

pub invariant_of-self-2 : goal.invariant_of-self-2
invariant_of-self-2 c =
    let captures = c.self.inside.captures in
    whole_later (goal.at.invariant_of-self-2 c).After-log_all (with_items captures c.capture_all.new.captures).items
    (kept_of length (written_over captures _ c.capture_all.new.captures c.capture_all.auto.captures c.deref_mut-13.ensures.value) c.capture_all.auto.captures c.deref_mut-13.ensures.value)

pub returns : goal.returns
returns c =
    let q = c.self.inside in
    let hs = c.split_at.result.0.now in
    let ps = c.split_at.result.1.now in
    let es = c.step_stations.new.emitted in
    let pes = c.relay_all.new.emitted in
    let os = c.step_stations.new.received in
    let heard = written_over q.heard _ c.hear_all.new.heard c.hear_all.auto.heard c.deref_mut.ensures.value in
    let senders = written_over q.senders _ c.step_stations.new.senders c.step_stations.auto.senders c.deref_mut-2.ensures.value in
    let emitted = written_over q.emitted _ es c.step_stations.auto.emitted c.deref_mut-4.ensures.value in
    let sent = written_over q.sent _ c.step_stations.new.sent c.step_stations.auto.sent c.deref_mut-5.ensures.value in
    let receivers = written_over q.receivers _ c.step_stations.new.receivers c.step_stations.auto.receivers c.deref_mut-3.ensures.value in
    let received = written_over q.received _ os c.step_stations.auto.received c.deref_mut-6.ensures.value in
    let relays = written_over q.relays _ c.relay_all.new.relays c.relay_all.auto.relays c.deref_mut-7.ensures.value in
    let port_emitted = written_over q.port_emitted _ pes c.relay_all.auto.emitted c.deref_mut-8.ensures.value in
    let decided = written_over q.decided _ c.relay_all.new.decided c.relay_all.auto.decided c.deref_mut-9.ensures.value in
    let events = written_over q.events _ c.relay_all.new.events c.relay_all.auto.events c.deref_mut-10.ensures.value in
    let row = written_over q.row _ c.join.new.row c.join.auto.row c.deref_mut-11.ensures.value in
    let segments = written_over q.segments _ c.carry_all.new.segments c.carry_all.auto.segments c.deref_mut-12.ensures.value in
    let captures = written_over q.captures _ c.capture_all.new.captures c.capture_all.auto.captures c.deref_mut-13.ensures.value in
    let first : KeptNet = record { t = q.t; senders = q.senders.items; receivers = q.receivers.items; repeaters = q.relays.items; wires = q.segments.items; places = q.places.items; rows = q.rows; captures = q.captures.items; reaches = q.settling.reaches.items; delays = q.settling.delays.items; settled = q.settling.settled } in
    let at = (goal.at.returns c).After-log_all in
    let last = kept_later at (with_items q.captures c.capture_all.new.captures).items in
    let stations : c.len.result ≡ length q.senders.items = c.len.ensures ∙ q.senders.ok.0 in
    let all : c.deref-3.result.now ≡ map (heard_at_place q.segments.items) q.places.items =
    c.deref-3.ensures.value ∙ heard ∙ c.hear_all.ensures ∙ ap₂ (λ (ws : List Wire) (at : List TapOnSegment). map (heard_at_place ws) at) c.deref.ensures.value c.deref-2.ensures.value in
    let stations_hear : hs ≡ stations_hear_kept first = c.split_at.ensures.front ∙ ap₂ (λ n (xs : List Sym). take n xs) stations all in
    let ports_hear : ps ≡ ports_hear_kept first = c.split_at.ensures.back ∙ ap₂ (λ n (xs : List Sym). drop n xs) stations all in
    let many : length c.deref-9.result.now ≡ length q.senders.items = ap length (c.deref-9.ensures.value ∙ sent) ∙ c.step_stations.auto.sent ∙ ap length c.deref_mut-5.ensures.value ∙ c.self.invariant.sending in
    let outcomes : sendings hs c.deref_mut-2.result.now ≡ sendings hs q.senders.items = ap (sendings hs) c.deref_mut-2.ensures.value in
    let settled : c.pass.new.self.settled ≡ max (max q.settling.settled (over_from q.t q.settling.reaches.items (es ++ pes))) (over_from q.t q.settling.delays.items c.relay_all.new.decided) =
    c.pass.ensures.settled
    ∙ ap₂ (λ m n. max (max q.settling.settled m) n)
    (ap (over_from q.t q.settling.reaches.items) (c.deref-7.ensures.value ∙ row ∙ c.join.ensures ∙ ap₂ (λ (xs ys : List Sym). xs ++ ys) (c.deref-4.ensures.value ∙ emitted) (c.deref-5.ensures.value ∙ port_emitted)))
    (ap (over_from q.t q.settling.delays.items) (c.deref-8.ensures.value ∙ decided)) in
    let reaches = same_items c.pass.new.self.reaches q.settling.reaches c.pass.ensures.reaches in
    let delays = same_items c.pass.new.self.delays q.settling.delays c.pass.ensures.delays in
    let bodies = all_told c.relay_all.new.relays c.relay_all.new.events in
    let goes : (c.capture_all.new.captures ≡ captured q.t c.deref-13.result.now (map kept_octets c.deref-14.result.now) c.deref_mut-13.result.now) → IsNextKept first last = λ kept.
    goes_on first last hs ps es pes c.step_stations.new.sent os bodies stations_hear ports_hear refl
    (senders ∙ c.step_stations.ensures.states ∙ ap (map (λ (o : SendOutcome). o.state)) outcomes)
    (c.step_stations.ensures.emitted ∙ ap (map (λ (o : SendOutcome). o.emitted)) outcomes)
    (c.step_stations.ensures.events ∙ ap (map (λ (o : SendOutcome). o.event)) outcomes)
    (given-alike hs hs es es c.deref_mut-3.result.now q.receivers.items c.step_stations.new.receivers last.receivers os
    refl refl c.deref_mut-3.ensures.value (sym receivers) c.step_stations.ensures.given)
    (relays ∙ c.relay_all.ensures.states ∙ ap (each_repeater after ps) c.deref_mut-7.ensures.value)
    (c.relay_all.ensures.emitted ∙ ap (flat_map emitted_by) c.deref_mut-7.ensures.value)
    (segments ∙ c.carry_all.ensures ∙ ap₂ (λ (xs : List Sym) (ws : List Wire). map (carried xs) ws) (c.deref-6.ensures.value ∙ row ∙ c.join.ensures ∙ ap₂ (λ (xs ys : List Sym). xs ++ ys) (c.deref-4.ensures.value ∙ emitted) (c.deref-5.ensures.value ∙ port_emitted)) c.deref_mut-12.ensures.value)
    refl (guards_kept at) reaches delays c.relay_all.new.decided
    (c.relay_all.ensures.decided ∙ ap (λ (rs : List RepeaterDevice). flat_map (λ (symbols : List Sym). symbols) (each_repeater decided_by ps rs)) c.deref_mut-7.ensures.value)
    settled
    (c.relay_all.ensures.bodies ∙ ap (each_repeater repeater_bodies ps) c.deref_mut-7.ensures.value)
    (c.in_ok-log_all.ensures
    ∙ ap₂ (λ (xs : List Row) (bs : List (List Body)). xs ++ repeater_rows q.t (length c.deref-9.result.now) bs)
    (ap₂ (λ (s r : List (Option Body)). q.rows ++ rows_of q.t 0 s r) (c.deref-9.ensures.value ∙ sent) (c.deref-10.ensures.value ∙ received))
    (ap₂ all_told (c.deref-11.ensures.value ∙ relays) (c.deref-12.ensures.value ∙ events))
    ∙ ap (λ n. (q.rows ++ rows_of q.t 0 c.step_stations.new.sent os) ++ repeater_rows q.t n bodies) many)
    (captures ∙ kept ∙ ap₂ (λ (o : List (Option Body)) (k : List KeptReception). captured q.t o (map kept_octets k) c.deref_mut-13.result.now) (c.deref-13.ensures.value ∙ received) c.deref-14.ensures.value ∙ ap (captured q.t os (map kept_octets last.receivers)) c.deref_mut-13.ensures.value) in
    on_ok_weaker c.capture_all.result (λ kept. subst (λ k. IsNextKept k last) c.self.view_is (goes kept)) c.capture_all.ensures
