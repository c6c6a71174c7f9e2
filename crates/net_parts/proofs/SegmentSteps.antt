-- A segment stands in the network, half bit by half bit.
use Rattle.std.proofs.Common.{◌≡◌, ℕ, suc, ◌<◌, true, List, ◌∷◌, ◌++◌, map, filter, length, get_or, None, refl, sym, ap, ap₂, ◌∙◌, arith}
use Rattle.std.proofs.lemmas.List.{length-map, get_or-map}
use Rattle.manchester_line.specs.declared.Sym.{Sym}
use Rattle.manchester_line.specs.declared.Sym.TheVariants.{Idle}
use Rattle.collision_log.specs.declared.row.Row.{Row}
use Rattle.load_plan.specs.declared.plan.Plan.{Plan}
use Rattle.mac_transmit.specs.Sender.{Sender, SendOutcome, sender_step}
use Rattle.manchester_line.specs.Line.{is_signal}
use Rattle.mac_receive.specs.Receiver.{Receiving, Reception, new_receiving, receiver_step}
use Rattle.network.specs.declared.outputs.Taken.{Taken}
use Rattle.layout.specs.Taps.{tap_of}
use Rattle.network.specs.Net.{net, sendings_in, sendings, receptions, receptions_in, each_repeater, ports_hear as ports_hear_all}
use Rattle.network.specs.Captures.{captured}
use Rattle.network.specs.Rows.{rows_of, repeater_rows, repeater_bodies}
use Rattle.network.specs.Times.{heard, emitted}
use Rattle.net_parts.specs.SegmentParts.{Wiring, wiring, SegmentState, ports_hear_on, sendings_on, receptions_on, segment_step, rows_on}
use Rattle.net_parts.specs.Standing.{receiver_at, captures_at, arrives, port_hears, segment_at, rows_of_devices, is_one_of}
use Rattle.network.proofs.StationAttempts.{no_sender}
use Rattle.network.specs.Attempts.{sender_at}
use Rattle.net_parts.specs.PartLaws.{IsLead, SegmentsGoOn}
use Rattle.net_parts.proofs.NetworkFacts.{StationFacts, station_facts}
use Rattle.net_parts.proofs.LookaheadLeads.{leads}
use Rattle.net_parts.specs.Windows.{lookahead}
use Rattle.net_parts.proofs.LateRows.{map-map, map_alike}
use Rattle.net_parts.proofs.StationNumbers.{numbered}
use Rattle.net_parts.proofs.SegmentHearing.{stations_hear, ports_hear}
use Rattle.net_parts.proofs.DeviceSteps.{sendings_of, receptions_of, captured_of, time_is, receive_all, reception_is, receiver_next, capture_next}
use Rattle.net_parts.proofs.StationRows.{rows_now}

no_sending : SendOutcome
no_sending = sender_step no_sender Idle

no_reception : Reception
no_reception = receiver_step (new_receiving 0 0) Idle true

same_state : {t t' : ℕ} {ss ss' : List Sender} {rs rs' : List Receiving} {os os' bs bs' : List (List Sym)} {ws ws' : List Row} {cs cs' : List (List Taken)} → t ≡ t' → ss ≡ ss' → rs ≡ rs' → os ≡ os' → bs ≡ bs' → ws ≡ ws' → cs ≡ cs' →
    ◌≡◌ {A = SegmentState} (record { t = t; senders = ss; receivers = rs; own = os; arrived = bs; rows = ws; captures = cs }) (record { t = t'; senders = ss'; receivers = rs'; own = os'; arrived = bs'; rows = ws'; captures = cs' })
same_state et es er eo ea ew ec = λ i. record { t = et i; senders = es i; receivers = er i; own = eo i; arrived = ea i; rows = ew i; captures = ec i }

module _ (plan : Plan) (facts : StationFacts plan) (L s t : ℕ) (lead : IsLead plan.layout L) where
  abbrev w : Wiring
  w = wiring plan.layout s

  abbrev many : ℕ
  many = length plan.layout.stations

  abbrev row : List Sym
  row = map (λ e. arrives plan L e t) w.edges

  abbrev now : SegmentState
  now = segment_at plan L w t

  outcome : ℕ → SendOutcome
  outcome k = sender_step (sender_at plan k t) (heard plan k t)

  reception : ℕ → Reception
  reception k = receiver_step (receiver_at plan k t) (heard plan k t) (is_signal (emitted plan k t))

  -- the segment's stations are stations
  pub below : (i : ℕ) → i < length w.stations → get_or w.stations i 0 < many
  below i h =
      let is = numbered s 0 (map tap_of plan.layout.stations) i (record { segment = 0; at = 0 }) h in
      let within = is.within in
      let number = is.number in
      let size = length-map plan.layout.stations tap_of in
      omega (arith, within, number, size)

  sendings_are : sendings_on w L row now ≡ map outcome w.stations
  unfolding outcome
  sendings_are = ap (λ hs. sendings hs now.senders) (stations_hear plan facts L s t lead) ∙ sendings_of (λ k. heard plan k t) (λ k. sender_at plan k t) w.stations

  emissions_are : map (λ (o : SendOutcome). o.emitted) (sendings_on w L row now) ≡ map (λ k. emitted plan k t) w.stations
  unfolding outcome
  emissions_are = ap (map (λ (o : SendOutcome). o.emitted)) sendings_are ∙ map-map (λ (o : SendOutcome). o.emitted) outcome w.stations ∙ map_alike _ _ w.stations (λ i h. sym (facts.emits (get_or w.stations i 0) t (below i h)))

  receptions_are : receptions_on w L row now ≡ map reception w.stations
  unfolding reception
  receptions_are =
      ap₂ (λ hs es. receptions hs es now.receivers) (stations_hear plan facts L s t lead) emissions_are
      ∙ receptions_of (λ k. heard plan k t) (λ k. emitted plan k t) (λ k. receiver_at plan k t) w.stations

  rows_are : now.rows ++ rows_on t w.stations (map (λ k. (outcome k).event) w.stations) (map (λ k. (reception k).event) w.stations) ≡ rows_of_devices plan w.stations (suc t)
  unfolding outcome reception
  rows_are =
      let n = net plan t in
      let senders = facts.senders t in
      let all = each_repeater repeater_bodies (ports_hear_all n) n.repeaters in
      let sends = facts.send_all t in
      let receives = receive_all plan facts t in
      let es = length-map (sendings_in n) (λ (o : SendOutcome). o.event) in
      let rs = length-map (receptions_in n) (λ (r : Reception). r.event) in
      sym (
      ap (λ v. rows_after v (length n.senders)) (time_is plan t)
      ∙ ap (λ v. rows_after t v) senders
      ∙ rows_now s t many (map tap_of plan.layout.stations) n.rows (map (λ (o : SendOutcome). o.event) (sendings_in n)) (map (λ (r : Reception). r.event) (receptions_in n)) all (λ k. (outcome k).event) (λ k. (reception k).event)
      (length-map plan.layout.stations tap_of) (es ∙ sends) (rs ∙ receives)
      (λ k h. get_or-map (λ (o : SendOutcome). o.event) (sendings_in n) k no_sending None (omega (arith, sends, h)) ∙ ap (λ (o : SendOutcome). o.event) (facts.sends k t no_sending h))
      (λ k h. get_or-map (λ (r : Reception). r.event) (receptions_in n) k no_reception None (omega (arith, receives, h)) ∙ ap (λ (r : Reception). r.event) (reception_is plan facts k t no_reception h)))
    where
      rows_after : ℕ → ℕ → List Row
      rows_after v m = filter (λ (r : Row). is_one_of r.device w.stations)
          ((net plan t).rows ++ (rows_of v 0 (map (λ (o : SendOutcome). o.event) (sendings_in (net plan t))) (map (λ (r : Reception). r.event) (receptions_in (net plan t))) ++ repeater_rows v m (each_repeater repeater_bodies (ports_hear_all (net plan t)) (net plan t).repeaters)))

  pub steps_on : segment_step w L row now ≡ segment_at plan L w (suc t)
  unfolding outcome reception
  steps_on =
      let os = sendings_are in
      let rs = receptions_are in
      same_state
      (omega arith)
      (ap (map (λ (o : SendOutcome). o.state)) os ∙ map-map (λ (o : SendOutcome). o.state) outcome w.stations ∙ map_alike _ _ w.stations (λ i h. sym (facts.steps (get_or w.stations i 0) t (below i h))))
      (ap (map (λ (r : Reception). r.state)) rs ∙ map-map (λ (r : Reception). r.state) reception w.stations ∙ map_alike _ _ w.stations (λ i h. sym (receiver_next plan facts (get_or w.stations i 0) t (below i h))))
      (ap (λ es. es ∷ now.own) emissions_are)
      refl
      (ap₂ (λ es xs. now.rows ++ rows_on t w.stations es xs)
      (ap (map (λ (o : SendOutcome). o.event)) os ∙ map-map (λ (o : SendOutcome). o.event) outcome w.stations)
      (ap (map (λ (r : Reception). r.event)) rs ∙ map-map (λ (r : Reception). r.event) reception w.stations)
      ∙ rows_are)
      (ap₂ (λ es xs. captured t es xs now.captures)
      (ap (map (λ (r : Reception). r.event)) rs ∙ map-map (λ (r : Reception). r.event) reception w.stations)
      (ap (map (λ (r : Reception). r.octets)) rs ∙ map-map (λ (r : Reception). r.octets) reception w.stations)
      ∙ captured_of t (λ k. (reception k).event) (λ k. (reception k).octets) (λ k. captures_at plan k t) w.stations
      ∙ map_alike _ _ w.stations (λ i h. sym (capture_next plan facts (get_or w.stations i 0) t (below i h))))

pub segment_truth : (plan : Plan) → StationFacts plan → (L s t : ℕ) → IsLead plan.layout L →
    (segment_step (wiring plan.layout s) L (map (λ e. arrives plan L e t) (wiring plan.layout s).edges) (segment_at plan L (wiring plan.layout s) t)
    ≡ segment_at plan L (wiring plan.layout s) (suc t))
    × (ports_hear_on (wiring plan.layout s) L (map (λ e. arrives plan L e t) (wiring plan.layout s).edges) (segment_at plan L (wiring plan.layout s) t)
    ≡ map (λ e. port_hears plan e t) (wiring plan.layout s).edges)
segment_truth plan facts L s t lead = (steps_on plan facts L s t lead, ports_hear plan facts L s t lead)

pub segments_go_on : SegmentsGoOn
segments_go_on plan s t = segment_truth plan (station_facts plan) (lookahead plan.layout) s t (leads plan.layout)
