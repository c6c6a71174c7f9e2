-- Rows and captures of stations that stand apart.
use Rattle.std.proofs.Common.{◌≡◌, ℕ, suc, ◌+◌, ◌-◌, ◌<◌, ◌≤◌, false, List, [], ◌++◌, map, length, get_or, None, sym, subst, ap, ◌∙◌, arith}
use Rattle.std.proofs.lemmas.List.{get_or-map, get_or_default, length-map, same_lists}
use Rattle.manchester_line.specs.Line.{is_signal}
use Rattle.load_plan.specs.declared.plan.Plan.{Plan}
use Rattle.mac_receive.specs.KeptReceiver.{KeptReception}
use Rattle.mac_receive.specs.Receiver.{receiver_step}
use Rattle.mac_transmit.specs.Sender.{Sender, sender_step}
use Rattle.network.specs.declared.outputs.Taken.{Taken}
use Rattle.network.specs.Attempts.{sender_at}
use Rattle.network.specs.Captures.{taken_by}
use Rattle.network.specs.Times.{heard, emitted}
use Rattle.net_parts.specs.Standing.{receiver_at, captures_at, rows_of_devices}
use Rattle.net_parts.proofs.DeviceSteps.{capture_next}
use Rattle.net_parts.proofs.NetworkFacts.{station_facts}
use Rattle.tap_lines.specs.TapLines.{TapLine}
use Rattle.segment_engine.specs.declared.apart.Watch.{Watch}
use Rattle.segment_engine.specs.declared.segment.Segment.{Segment}
use Rattle.segment_engine.specs.StationsApart.{StandsBehind, StandAllApart, AreStill, IsStillBy, HearAllByLines, number_on, heard_reception}
use Rattle.segment_engine.proofs.Beginnings.{is_station_of}
use Rattle.segment_engine.proofs.BehindStations.{no_sending, no_reception}
use Rattle.segment_engine.proofs.StationsLater.{rows_stay, captures_to}

abbrev pub a_watch : Watch
a_watch = record { since = 0; until = 0; carrier = false; told = 0 }

-- Stations that stand behind, before half bit u at the latest, and of which none is due before half bit v.
pub record GoOnTo (of : Segment) (t u v : ℕ) (ls : List TapLine) (ws : ℕ → Watch) (ss : ℕ → Sender) (ks : ℕ → KeptReception) : Type 0 where
  pub behind : (i : ℕ) → i < length of.stations.items → StandsBehind of.plan.value (number_on of i) i of.lookahead t ls (ws i) (ss i) (ks i)
  pub since : (i : ℕ) → i < length of.stations.items → (ws i).since ≤ u
  pub until : (i : ℕ) → i < length of.stations.items → v ≤ (ws i).until
  pub still : (i : ℕ) → i < length of.stations.items → (ws i).since < (ws i).until → IsStillBy (ws i) (ss i) (ks i)

pub go_on_to : (of : Segment) (t u v : ℕ) (ls : List TapLine) (ws : List Watch) (ss : List Sender) (ks : List KeptReception) (ds : Sender) (dk : KeptReception) →
    StandAllApart of t u ls ws ss ks → AreStill of ws ss ks → ((i : ℕ) (w : Watch) → i < length of.stations.items → v ≤ (get_or ws i w).until) →
    GoOnTo of t u v ls (λ i. get_or ws i a_watch) (λ i. get_or ss i ds) (λ i. get_or ks i dk)
go_on_to of t u v ls ws ss ks ds dk all still until = record {
  behind = λ i h. (all.each i a_watch ds dk h).behind;
  since = λ i h. (all.each i a_watch ds dk h).since;
  until = λ i h. until i a_watch h;
  still = λ i h. still i a_watch ds dk h;
}

module _ (of : Segment) (t : ℕ) (ls : List TapLine) where
  abbrev plan : Plan
  plan = of.plan.value

  abbrev items : List ℕ
  items = of.stations.items

  abbrev n : ℕ
  n = length items

  pub heard_less : (u v : ℕ) → u ≤ v → HearAllByLines of t v ls → HearAllByLines of t u ls
  heard_less u v h right = λ i l. record {
    hears = λ a low high. (right i l).hears a low (omega (arith, high, h));
    classes = λ a low high. (right i l).classes a low (omega (arith, high, h));
    emits = λ a low high. (right i l).emits a low (omega (arith, high, h));
  }

  -- half bits in which nothing happens
  module _ (u v : ℕ) (later : u ≤ v) (ws : ℕ → Watch) (ss : ℕ → Sender) (ks : ℕ → KeptReception) (on : GoOnTo of t u v ls ws ss ks) (right : HearAllByLines of t v ls) where
    abbrev Nothing : List ℕ → Type 0
    Nothing xs = (r j : ℕ) → r < length xs → j < v - u → ((sender_step (sender_at plan (get_or xs r 0) (u + j)) (heard plan (get_or xs r 0) (u + j))).event ≡ None)
        × ((receiver_step (receiver_at plan (get_or xs r 0) (u + j)) (heard plan (get_or xs r 0) (u + j)) (is_signal (emitted plan (get_or xs r 0) (u + j)))).event ≡ None)

    nothing : Nothing items
    nothing r j h l =
        let early = on.since r h in
        let late = on.until r h in
        let there = is_station_of of r h in
        let a = u + j in
        let so = heard_less (a + 1) v (omega (arith, l)) right r h in (
          no_sending plan (number_on of r) there r of.lookahead t a ls (ws r) (ss r) (ks r) (on.behind r h) (omega (arith, early)) (omega (arith, late, l)) so,
          no_reception plan (number_on of r) there r of.lookahead t a ls (ws r) (ss r) (ks r) (on.behind r h) (omega (arith, early)) (omega (arith, late, l)) so (on.still r h (omega (arith, early, late, l))),
        )

    at_last : u + (v - u) ≡ v
    at_last = omega (arith, later)

    pub rows_same : rows_of_devices plan items v ≡ rows_of_devices plan items u
    rows_same =
        let numbers = of.station_numbers in
        let P : List ℕ → Type 0 = λ xs. rows_of_devices plan xs (u + (v - u)) ≡ rows_of_devices plan xs u in
        ap (rows_of_devices plan items) (sym at_last) ∙ subst P (sym numbers) (rows_stay plan of.number u (v - u) (subst Nothing numbers nothing))

    pub captures_same : (r : ℕ) → r < n → captures_at plan (number_on of r) v ≡ captures_at plan (number_on of r) u
    captures_same r h =
        let numbers = of.station_numbers in
        let P : List ℕ → Type 0 = λ xs. captures_at plan (get_or xs r 0) (u + (v - u)) ≡ captures_at plan (get_or xs r 0) u in
        ap (captures_at plan (number_on of r)) (sym at_last)
        ∙ subst P (sym numbers) (captures_to plan of.number u (v - u) (subst Nothing numbers nothing) r (v - u) (let e = ap length numbers in omega (arith, e, h)) (omega arith))

  pub captures_stay : (u v : ℕ) → ((i : ℕ) → i < n → captures_at plan (number_on of i) u ≡ captures_at plan (number_on of i) v) →
      map (λ x. captures_at plan x u) items ≡ map (λ x. captures_at plan x v) items
  captures_stay u v same =
      let c = λ (x : ℕ). captures_at plan x u in
      let c' = λ (x : ℕ). captures_at plan x v in
      same_lists (map c items) (map c' items) (length-map items c ∙ sym (length-map items c')) (λ i d l.
      let size = length-map items c in
      let in_it : i < n = omega (arith, l, size) in
      get_or-map c items i 0 d in_it ∙ same i in_it ∙ sym (get_or-map c' items i 0 d in_it))

  -- captures after the half bit u and those up to v
  pub kept_later : (u v : ℕ) (caps caps' : List (List Taken)) → caps ≡ map (λ x. captures_at plan x u) items → length caps' ≡ length caps →
      ((i : ℕ) → i < n → get_or caps' i [] ≡ get_or caps i [] ++ taken_by u (heard_reception plan (number_on of i) u).event (heard_reception plan (number_on of i) u).octets) →
      ((i : ℕ) → i < n → captures_at plan (number_on of i) v ≡ captures_at plan (number_on of i) (suc u)) → caps' ≡ map (λ x. captures_at plan x v) items
  kept_later u v caps caps' were len taken same =
      let c = λ (x : ℕ). captures_at plan x u in
      let c' = λ (x : ℕ). captures_at plan x v in
      let many : length caps ≡ n = ap length were ∙ length-map items c in
      same_lists caps' (map c' items) (len ∙ many ∙ sym (length-map items c')) (λ i d l.
      let in_it : i < n = omega (arith, l, len, many) in
      let one = heard_reception plan (number_on of i) u in
      get_or_default caps' i d [] l
      ∙ taken i in_it
      ∙ ap (λ xs. get_or xs i [] ++ taken_by u one.event one.octets) were
      ∙ ap (λ xs. xs ++ taken_by u one.event one.octets) (get_or-map c items i 0 [] in_it)
      ∙ sym (capture_next plan (station_facts plan) (number_on of i) u (is_station_of of i in_it))
      ∙ sym (same i in_it)
      ∙ sym (get_or-map c' items i 0 d in_it))
