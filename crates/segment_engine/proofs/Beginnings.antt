-- A segment stands in the network before half bit 0.
use Rattle.std.proofs.Common.{◌≡◌, ℕ, zero, suc, ◌+◌, ◌-◌, ◌<◌, ◌≤◌, All, true, false, cond, ltb, eqb, List, [], ◌∷◌, ◌++◌, map, replicate, take, length, get_or, refl, sym, subst, ap, ap₂, ◌∙◌, arith}
use Rattle.std.proofs.lemmas.List.{get_or-map, get_or-replicate, length-map, length-replicate, take_more, map-append}
use Rattle.std.proofs.lemmas.Grind.{same_number_lists, get_or_default_zero}
use Rattle.std.proofs.lemmas.Bool.Decides.{nat_tests}
use Rattle.manchester_line.specs.declared.Sym.TheVariants.{Idle}
use Rattle.manchester_line.specs.Line.{is_signal}
use Rattle.mac_parameters.specs.Parameters.{most_octets}
use Rattle.layout.specs.declared.lines.StationLine.{StationLine}
use Rattle.layout.specs.Taps.{tap_of, taps_of}
use Rattle.load_plan.specs.declared.plan.Plan.{Plan}
use Rattle.mac_transmit.specs.Sender.{Sender, is_sending}
use Rattle.mac_receive.specs.Receiver.{Receiving, new_receiving}
use Rattle.mac_receive.specs.KeptReceiver.{KeptReception, Hears}
use Rattle.network.specs.declared.outputs.Taken.{Taken}
use Rattle.network.specs.Attempts.{sender_at}
use Rattle.network.specs.Net.{new_receiver}
use Rattle.network.specs.Times.{port_delays}
use Rattle.network.proofs.StationAttempts.{first_sender, station_runs}
use Rattle.network.proofs.TapsOnSegments.{length-numbers}
use Rattle.kept_devices.specs.KeptReceivers.{AllHear}
use Rattle.kept_devices.proofs.Receivers.{AllHear-more, AllHear-at, length-AllHear}
use Rattle.net_parts.specs.Windows.{lookahead, edge_ports}
use Rattle.net_parts.specs.SegmentParts.{Wiring, wiring}
use Rattle.net_parts.specs.Standing.{receiver_at, captures_at}
use Rattle.net_parts.proofs.NetworkFacts.{station_facts}
use Rattle.net_parts.proofs.LookaheadLeads.{leads}
use Rattle.net_parts.proofs.SegmentSteps.{below}
use Rattle.net_parts.proofs.StationNumbers.{numbered, length-both}
use Rattle.tap_lines.specs.TapLines.{TapLine, no_line, goes_on}
use Rattle.tap_lines.proofs.LineClasses.{class_behind, symbol_behind}
use Rattle.segment_engine.specs.declared.apart.Watch.{Watch}
use Rattle.segment_engine.specs.declared.segment.Segment.{Segment}
use Rattle.segment_engine.specs.KnownLines.{KnowLines}
use Rattle.segment_engine.specs.NewLines.{AreEmptyLines, IsNewLine, AreNewLines, new_delay, new_watch}
use Rattle.segment_engine.specs.RunningStates.{HaveRoomFrom}
use Rattle.segment_engine.specs.StationsApart.{AreStill, HearAllByLines, StandAllApart, StandsApart, StandsBehind}
use Rattle.segment_engine.proofs.SteadyCalm.{emits_idle, idle_class, no_calm}

-- the first sender of a station
pub sender_new : (plan : Plan) (k : ℕ) → k < length plan.layout.stations → sender_at plan k 0 ≡ first_sender plan k
sender_new plan k h = station_runs plan k 0 h

pub receiver_new : (plan : Plan) (k : ℕ) (d : StationLine) → k < length plan.layout.stations → receiver_at plan k 0 ≡ new_receiver (most_octets (eqb plan.layout.format 2)) (get_or plan.layout.stations k d)
receiver_new plan k d h = get_or-map (new_receiver (most_octets (eqb plan.layout.format 2))) plan.layout.stations k d (new_receiving 0 0) h

-- one station more
pub map_more : {Y : Type 0} (f : ℕ → Y) (ks : List ℕ) (i : ℕ) (ys ys' : List Y) (y : Y) → i < length ks → ys ≡ map f (take i ks) → y ≡ f (get_or ks i 0) → ys' ≡ ys ++ y ∷ [] → ys' ≡ map f (take (i + 1) ks)
map_more f ks i ys ys' y h before now pushed =
    pushed ∙ ap₂ (λ xs x. xs ++ x ∷ []) before now ∙ sym (map-append f (take i ks) (get_or ks i 0 ∷ [])) ∙ ap (map f) (sym (take_more ks i 0 h))

pub hear_more : (f : ℕ → Receiving) (ks : List ℕ) (i : ℕ) (ys ys' : List KeptReception) (y : KeptReception) → i < length ks → AllHear (map f (take i ks)) ys → Hears (f (get_or ks i 0)) y → ys' ≡ ys ++ y ∷ [] → AllHear (map f (take (i + 1) ks)) ys'
hear_more f ks i ys ys' y h before now pushed =
    let all : AllHear (map f (take i ks) ++ f (get_or ks i 0) ∷ []) (ys ++ y ∷ []) = AllHear-more (map f (take i ks)) ys (f (get_or ks i 0)) y before now in
    let same : map f (take (i + 1) ks) ≡ map f (take i ks) ++ f (get_or ks i 0) ∷ [] = ap (map f) (take_more ks i 0 h) ∙ map-append f (take i ks) (get_or ks i 0 ∷ []) in
    subst (λ xs. AllHear xs ys') (sym same) (subst (AllHear (map f (take i ks) ++ f (get_or ks i 0) ∷ [])) (sym pushed) all)

-- no captures yet
nothing_at : (xs : List StationLine) (k : ℕ) → get_or (map (λ (x : StationLine). let c : List Taken = [] in c) xs) k [] ≡ []
nothing_at [] k = refl
nothing_at (x ∷ xs) zero = refl
nothing_at (x ∷ xs) (suc k) = nothing_at xs k

pub no_captures : (plan : Plan) (ks : List ℕ) → replicate (length ks) [] ≡ map (λ k. captures_at plan k 0) ks
no_captures plan [] = refl
no_captures plan (k ∷ ks) = ap₂ ◌∷◌ (sym (nothing_at plan.layout.stations k)) (no_captures plan ks)

module _ (plan : Plan) (s : ℕ) where
  abbrev w : Wiring
  w = wiring plan.layout s

  pub stations_within : All (λ k. k < length plan.layout.stations) w.stations
  stations_within = λ i d h.
      let zero_too = get_or_default_zero w.stations i d h in
      let b = below plan (station_facts plan) (lookahead plan.layout) s 0 (leads plan.layout) i h in
      omega (arith, zero_too, b)

  pub edges_within : All (λ e. e < length (port_delays plan.layout)) w.edges
  edges_within = λ p d h.
      let zero_too = get_or_default_zero w.edges p d h in
      let is = numbered s 0 (edge_ports plan.layout) p (record { segment = 0; at = 0 }) h in
      let within = is.within in
      let number = is.number in
      let many = (station_facts plan).delays in
      omega (arith, zero_too, within, number, many)

  pub taps_many : length w.positions ≡ length w.stations + length w.edges
  taps_many =
      sym (length-numbers s 0 (taps_of plan.layout)) ∙ length-both s 0 (map tap_of plan.layout.stations) (edge_ports plan.layout)

  -- the lines before half bit 0
  module _ (L : ℕ) (ls : List TapLine) (are : AreNewLines w.positions (length w.stations) L w.edges (port_delays plan.layout) ls) where
    abbrev here : ℕ
    here = length w.stations

    many : length ls ≡ here + length w.edges
    many = are.count ∙ taps_many

    line : (r : ℕ) → r < length ls → IsNewLine (get_or w.positions r 0) (new_delay here L w.edges (port_delays plan.layout) r) are.away L (get_or ls r no_line)
    line r h = are.each r no_line h

    is_station : (r m x : ℕ) → r < m → cond (ltb r m) L x ≡ L
    is_station r m x h = grind (arith, nat_tests)

    is_port : (r m x : ℕ) → m ≤ r → cond (ltb r m) L x ≡ x
    is_port r m x h = grind (arith, nat_tests)

    pub lines_known : KnowLines plan w L 0 0 ls
    lines_known =
        let at_size = length-map ls (λ (l : TapLine). l.at) in
        let size = many in
        record {
          many = many;
          places = same_number_lists (map (λ (l : TapLine). l.at) ls) w.positions (at_size ∙ are.count) (λ k h.
              get_or-map (λ (l : TapLine). l.at) ls k no_line 0 (omega (arith, h, at_size)) ∙ (line k (omega (arith, h, at_size))).at_place);
          no_delays = λ r h. (line r (omega (arith, h, size))).with_delay ∙ is_station r here _ h;
          delays = λ p h.
              let place : here + p - here ≡ p = omega arith in
              (line (here + p) (omega (arith, h, size))).with_delay
              ∙ is_port (here + p) here _ (omega arith)
              ∙ ap (λ i. get_or (port_delays plan.layout) (get_or w.edges i 0) 0) place
              ∙ sym (get_or-map (λ j. get_or (port_delays plan.layout) j 0) w.edges p 0 0 h);
          begins = λ r h. let first = (line r h).from_first in omega (arith, first);
          near = λ p r hp hr.
              let keeps = (line r hr).keeps in
              let wait = (line r hr).with_delay in
              let same = are.count in
              let few = are.within p r hp (omega (arith, hr, same)) in
              omega (arith, keeps, wait, few);
          emissions = λ r u h low high. absurd (omega (arith, high));
          arrivals = λ p u h low high. absurd (omega (arith, high));
          classes = λ r u h high. absurd (omega (arith, high));
          port_classes = λ p u h high. absurd (omega (arith, high));
        }

    pub lines_empty : AreEmptyLines ls
    lines_empty = record { from_first = λ r h. (line r h).from_first; empty = λ r h. (line r h).empty }

    pub lines_roomy : HaveRoomFrom 0 L ls
    lines_roomy = record {
      last = λ r h. let keeps = (line r h).keeps in omega (arith, keeps);
      keep = λ r h. omega arith;
      size = λ r h. let none = ap length (line r h).empty in let roomy = (line r h).roomy in omega (arith, none, roomy);
      fits = λ r h. let none = ap length (line r h).empty in let few = (line r h).fits in omega (arith, none, few);
    }

-- a station before half bit 0, whose line is empty
resting : (plan : Plan) (k : ℕ) → k < length plan.layout.stations → is_sending (sender_at plan k 0).phase ≡ false
resting plan k h = ap (λ (s : Sender). is_sending s.phase) (sender_new plan k h)

pub stands_new : (plan : Plan) (x p L : ℕ) (ls : List TapLine) (s : Sender) (k : KeptReception) → x < length plan.layout.stations → p < length ls → AreEmptyLines ls →
    s ≡ sender_at plan x 0 → Hears (receiver_at plan x 0) k → k.steps ≡ 0 → StandsBehind plan x p L 0 ls new_watch s k
stands_new plan x p L ls s k station there empty sender receiver steps =
    let l = get_or ls p no_line in
    let first = empty.from_first p there in
    let none = empty.empty p there in
    let size = ap length none in
    let rests : is_sending s.phase ≡ false = ap (λ (y : Sender). is_sending y.phase) sender ∙ resting plan x station in
    let off : goes_on l ≡ false = ap (λ xs. is_signal (get_or xs (length xs - 1) Idle)) none in
    record {
      from_start = omega arith;
      ordered = omega arith;
      within = omega arith;
      sender = sender;
      receiver = receiver;
      time = ap (λ (y : Sender). y.t) (sender ∙ sender_new plan x station);
      steps = steps;
      calm = no_calm false s;
      steady = λ a low high. absurd (omega (arith, low, high));
      line = λ j h. symbol_behind l (0 + j) (omega (arith, first, size)) ∙ sym (emits_idle s j s.phase rests);
      signal = λ j h. idle_class s j rests;
      goes = λ a h. class_behind l a (omega (arith, first, size)) ∙ off ∙ sym rests;
      lasts = λ sending. absurd (let no : true ≡ false = sym sending ∙ rests in cc);
    }

-- a station of a segment is one of the plan
pub is_station_of : (of : Segment) (i : ℕ) → i < length of.stations.items → get_or of.stations.items i 0 < length of.plan.value.layout.stations
is_station_of of i h = subst (All (λ k. k < length of.plan.value.layout.stations)) (sym of.station_numbers) (stations_within of.plan.value of.number) i 0 h

-- all stations of a segment before half bit 0
module _ (of : Segment) (ls : List TapLine) (ss : List Sender) (ks : List KeptReception) (senders : ss ≡ map (λ k. sender_at of.plan.value k 0) of.stations.items)
    (receivers : AllHear (map (λ k. receiver_at of.plan.value k 0) of.stations.items) ks) (steps : All (λ r. r.steps ≡ 0) ks) (empty : AreEmptyLines ls) (taps : length of.stations.items ≤ length ls) where
  abbrev plan : Plan
  plan = of.plan.value

  abbrev n : ℕ
  n = length of.stations.items

  receivers_many : length ks ≡ n
  receivers_many = sym (length-AllHear (map (λ k. receiver_at plan k 0) of.stations.items) ks receivers) ∙ length-map of.stations.items (λ k. receiver_at plan k 0)

  stands_one : (i : ℕ) (w : Watch) (s : Sender) (k : KeptReception) → i < n → StandsApart of 0 0 i ls (get_or (replicate n new_watch) i w) (get_or ss i s) (get_or ks i k)
  stands_one i w s k h =
      let size = receivers_many in
      let f = λ (j : ℕ). receiver_at plan j 0 in
      let r = f 0 in
      let number = get_or of.stations.items i 0 in
      let in_it : i < length ks = omega (arith, h, size) in
      let sender_is : get_or ss i s ≡ sender_at plan number 0 = ap (λ xs. get_or xs i s) senders ∙ get_or-map (λ j. sender_at plan j 0) of.stations.items i 0 s h in
      let hears : Hears (receiver_at plan number 0) (get_or ks i k) =
      subst (λ (y : Receiving). Hears y (get_or ks i k)) (get_or-map f of.stations.items i 0 r h) (AllHear-at (map f of.stations.items) ks i r k receivers in_it) in
      let new : StandsApart of 0 0 i ls new_watch (get_or ss i s) (get_or ks i k) = record {
        behind = stands_new plan number i of.lookahead ls (get_or ss i s) (get_or ks i k) (is_station_of of i h) (omega (arith, h, taps)) empty sender_is hears (steps i k in_it);
        since = omega arith;
        until = omega arith;
        within = omega arith;
        still = λ before. absurd (omega (arith, before));
      } in
      subst (λ v. StandsApart of 0 0 i ls v (get_or ss i s) (get_or ks i k)) (sym (get_or-replicate n i new_watch w h)) new

  pub stand_new : StandAllApart of 0 0 ls (replicate n new_watch) ss ks
  stand_new = record {
    senders = ap length senders ∙ length-map of.stations.items (λ k. sender_at plan k 0);
    receivers = receivers_many;
    watches = sym (length-replicate n new_watch);
    taps = taps;
    each = stands_one;
  }

  pub still_new : AreStill of (replicate n new_watch) ss ks
  still_new i w s k h due =
      let is : get_or (replicate n new_watch) i w ≡ new_watch = get_or-replicate n i new_watch w h in
      let since = ap (λ (v : Watch). v.since) is in
      let until = ap (λ (v : Watch). v.until) is in
      absurd (omega (arith, due, since, until))

  pub hear_new : HearAllByLines of 0 0 ls
  hear_new i h = record {
    hears = λ a low high. absurd (omega (arith, high));
    classes = λ a low high. absurd (omega (arith, high));
    emits = λ a low high. absurd (omega (arith, high));
  }
