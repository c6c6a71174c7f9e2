-- What a segment keeps stands for its part's state.
use Rattle.std.proofs.Common.{◌≡◌, ℕ, zero, suc, ◌<◌, true, false, Bool, cond, eqb, None, List, [], ◌∷◌, ◌++◌, map, length, get_or, refl, sym, subst, ap, ap₂, ◌∙◌, arith}
use Rattle.std.proofs.Props.{props}
use Rattle.std.proofs.lemmas.Bool.{false≢true}
use Rattle.std.proofs.lemmas.Bool.Decides.{nat_tests}
use Rattle.manchester_line.specs.declared.Sym.{Sym}
use Rattle.manchester_line.specs.declared.Sym.TheVariants.{Idle, Hi, Lo, Clash}
use Rattle.manchester_line.specs.Line.{is_signal}
use Rattle.mac_parameters.specs.Parameters.{most_octets}
use Rattle.layout.specs.declared.lines.StationLine.{StationLine}
use Rattle.load_plan.specs.declared.plan.Plan.{Plan}
use Rattle.mac_receive.specs.Receiver.{Receiving, Reception, receiver_step, quiet, reception_ended, extended}
use Rattle.mac_receive.specs.KeptReceiver.{KeptReception}
use Rattle.mac_transmit.specs.Sender.{Sender}
use Rattle.network.specs.Attempts.{sender_at}
use Rattle.network.specs.Times.{heard, emitted}
use Rattle.network.specs.Outputs.{half_bits}
use Rattle.net_parts.specs.Windows.{lookahead, time, windows}
use Rattle.net_parts.specs.SegmentParts.{wiring}
use Rattle.net_parts.specs.Standing.{captures_at, receiver_at, rows_of_devices, segment_at}
use Rattle.net_parts.specs.OutputsOfParts.{rows_handed_out, captures_handed_out, cut_rows_on}
use Rattle.net_parts.specs.Parts.{PartState, OfSegment, OfRepeater, is_segment_part, part_of_kind, part_at, parts}
use Rattle.net_parts.proofs.NetworkFacts.{station_facts}
use Rattle.net_parts.proofs.DeviceSteps.{receiver_next}
use Rattle.tap_lines.specs.TapLines.{TapLine}
use Rattle.window_room.specs.Rooms.{Room, KeepsRoom}
use Rattle.window_room.specs.NeededRoom.{Demand, Covers, IsDemandWithin}
use Rattle.segment_engine.specs.declared.apart.Watch.{Watch}
use Rattle.segment_engine.specs.declared.running.Running.{Running}
use Rattle.segment_engine.specs.declared.segment.Segment.{Segment}
use Rattle.segment_engine.specs.KeptParts.{KeepsSegment, is_segment_state, segment_state}
use Rattle.segment_engine.specs.RunningStates.{IsRunningAt}
use Rattle.segment_engine.specs.StationsApart.{StandAllApart}
use Rattle.segment_engine.proofs.Beginnings.{receiver_new}

-- a segment is the same whatever shows its facts
pub other_proofs : (P : Segment → Type 0) (g : Segment) (a : g.number < length g.plan.value.layout.segments) (b : g.number < parts g.plan.value) (c : g.stations.items ≡ (wiring g.plan.value.layout g.number).stations)
    (d : g.edges ≡ (wiring g.plan.value.layout g.number).edges) (e : g.lookahead ≡ lookahead g.plan.value.layout) (f : g.half_bits ≡ half_bits g.plan.value) (h : g.windows ≡ windows g.plan.value) → P g →
    P (record g { within = a; within_parts = b; station_numbers = c; edge_numbers = d; window_length = e; run_length = f; window_count = h })
other_proofs P g a b c d e f h x =
    let pa : IsProp (g.number < length g.plan.value.layout.segments) = hlevel props in
    let pb : IsProp (g.number < parts g.plan.value) = hlevel props in
    let pc : IsProp (g.stations.items ≡ (wiring g.plan.value.layout g.number).stations) = hlevel props in
    let pd : IsProp (g.edges ≡ (wiring g.plan.value.layout g.number).edges) = hlevel props in
    let pe : IsProp (g.lookahead ≡ lookahead g.plan.value.layout) = hlevel props in
    let pf : IsProp (g.half_bits ≡ half_bits g.plan.value) = hlevel props in
    let ph : IsProp (g.windows ≡ windows g.plan.value) = hlevel props in
    let same : g ≡ record g { within = a; within_parts = b; station_numbers = c; edge_numbers = d; window_length = e; run_length = f; window_count = h } =
    λ i. record g {
      within = pa g.within a i;
      within_parts = pb g.within_parts b i;
      station_numbers = pc g.station_numbers c i;
      edge_numbers = pd g.edge_numbers d i;
      window_length = pe g.window_length e i;
      run_length = pf g.run_length f i;
      window_count = ph g.window_count h i;
    } in
    subst P same x

-- the part that stands at a window is a segment
part_is : (plan : Plan) (s wd t : ℕ) → s < length plan.layout.segments → t ≡ time plan wd → part_at plan s wd ≡ OfSegment (segment_at plan (lookahead plan.layout) (wiring plan.layout s) t)
unfolding part_at
part_is plan s wd t below at =
    let is : is_segment_part plan s ≡ true = grind (arith, nat_tests) in
    ap (λ b. part_of_kind plan b s (time plan wd)) is ∙ ap (λ u. OfSegment (segment_at plan (lookahead plan.layout) (wiring plan.layout s) u)) (sym at)

pub kept_of : (of : Segment) (wd front : ℕ) (a : Running) → a.t ≡ time of.plan.value wd → IsRunningAt of front a → KeepsSegment of a (part_at of.plan.value of.number wd)
kept_of of wd front a at is =
    let plan = of.plan.value in
    let numbers = of.station_numbers in
    subst (KeepsSegment of a) (sym (part_is plan of.number wd a.t of.within at)) (record {
      kind = refl;
      time = refl;
      behind = is.goes.stations;
      senders = ap (map (λ k. sender_at plan k a.t)) (sym numbers);
      receivers = ap (map (λ k. receiver_at plan k a.t)) (sym numbers);
      rows = is.goes.logged ∙ ap (λ ks. rows_of_devices plan ks a.t) numbers;
      captures = is.goes.kept ∙ ap (map (λ k. captures_at plan k a.t)) numbers;
    })

-- where all stations stand before the present half bit, their senders are those of the network
each_is : (f : ℕ → Sender) (ks : List ℕ) (ss : List Sender) → length ss ≡ length ks → ((i : ℕ) (d : Sender) → i < length ks → get_or ss i d ≡ f (get_or ks i 0)) → ss ≡ map f ks
each_is f [] [] many each = refl
each_is f [] (s ∷ ss) many each = absurd (omega (arith, many))
each_is f (k ∷ ks) [] many each = absurd (omega (arith, many))
each_is f (k ∷ ks) (s ∷ ss) many each = ap₂ ◌∷◌ (each 0 s (omega arith)) (each_is f ks ss (omega (arith, many)) (λ i d h. each (suc i) d (omega (arith, h))))

pub senders_now : (of : Segment) (from t : ℕ) (ls : List TapLine) (ws : List Watch) (ss : List Sender) (ks : List KeptReception) (w : Watch) (k : KeptReception) → from ≡ t → StandAllApart of from t ls ws ss ks →
    ss ≡ map (λ j. sender_at of.plan.value j t) of.stations.items
senders_now of from t ls ws ss ks w k same all =
    each_is (λ j. sender_at of.plan.value j t) of.stations.items ss all.senders (λ i d h.
    let one = all.each i w d k h in
    let early = one.since in
    let late = one.behind.from_start in
    let now : (get_or ws i w).since ≡ t = omega (arith, early, late, same) in
    one.behind.sender ∙ ap (sender_at of.plan.value (get_or of.stations.items i 0)) now)

-- what such a part hands out
pub handed_rows : (plan : Plan) (u : ℕ) (p : PartState) → is_segment_state p ≡ true → (segment_state p).rows ++ cut_rows_on (segment_state p).t (wiring plan.layout u).stations (segment_state p).senders ≡ rows_handed_out plan u p
handed_rows plan u (OfSegment x) h = refl
handed_rows plan u (OfRepeater x) h = absurd (false≢true h)

pub handed_captures : (p : PartState) → is_segment_state p ≡ true → (segment_state p).captures ≡ captures_handed_out p
handed_captures (OfSegment x) h = refl
handed_captures (OfRepeater x) h = absurd (false≢true h)

-- the most octets of what the receivers take
no_station : StationLine
no_station = record { name = []; segment = 0; at = 0; load = None; lose = 0 }

most_ended : (r : Receiving) (hs : List Sym) → (reception_ended r hs).state.most ≡ r.most
most_ended r [] = refl
most_ended r (s ∷ ss) = refl

most_if : (b : Bool) (x y : Reception) (m : ℕ) → x.state.most ≡ m → y.state.most ≡ m → (cond b x y).state.most ≡ m
most_if true x y m a c = a
most_if false x y m a c = c

pub most_step : (r : Receiving) (heard : Sym) (sending : Bool) → (receiver_step r heard sending).state.most ≡ r.most
most_step r heard true = refl
most_step r Idle false = most_if r.deaf (quiet (record r { deaf = false; halves = [] })) (reception_ended r r.halves) r.most refl (most_ended r r.halves)
most_step r Hi false = most_if r.deaf (quiet r) (extended r Hi) r.most refl refl
most_step r Lo false = most_if r.deaf (quiet r) (extended r Lo) r.most refl refl
most_step r Clash false = most_if r.deaf (quiet r) (extended r Clash) r.most refl refl

pub receiver_most : (plan : Plan) (k t : ℕ) → k < length plan.layout.stations → (receiver_at plan k t).most ≡ most_octets (eqb plan.layout.format 2)
receiver_most plan k zero h = ap (λ (r : Receiving). r.most) (receiver_new plan k no_station h)
receiver_most plan k (suc t) h =
    ap (λ (r : Receiving). r.most) (receiver_next plan (station_facts plan) k t h)
    ∙ most_step (receiver_at plan k t) (heard plan k t) (is_signal (emitted plan k t))
    ∙ receiver_most plan k t h

pub covers_kept : (d : Demand) (old new : Room) → KeepsRoom 0 0 0 old new → Covers d old → Covers d new
covers_kept d old new k c = record {
  for_rows = let x = k.keeps_rows in let y = c.for_rows in omega (arith, x, y);
  for_frames = let x = k.keeps_frames in let y = c.for_frames in omega (arith, x, y);
  for_octets = let x = k.keeps_octets in let y = c.for_octets in omega (arith, x, y);
}

pub covers_within : (a b : Demand) (room : Room) → IsDemandWithin a b → Covers b room → Covers a room
covers_within a b room w c = record {
  for_rows = let x = w.fewer_rows in let y = c.for_rows in omega (arith, x, y);
  for_frames = let x = w.fewer_frames in let y = c.for_frames in omega (arith, x, y);
  for_octets = let x = w.fewer_octets in let y = c.for_octets in omega (arith, x, y);
}
