-- The parcels of a window, and the room that it needs.
use Rattle.std.proofs.Common.{◌≡◌, ℕ, ◌+◌, ◌-◌, ◌*◌, ◌<◌, ◌≤◌, min, true, false, List, [], ◌∷◌, ◌++◌, map, take, length, get_or, refl, sym, subst, ap, ap₂, ◌∙◌, arith}
use Rattle.std.proofs.lemmas.List.{take-append-le, take_all}
use Rattle.std.proofs.lemmas.Bool.Decides.{nat_tests}
use Rattle.load_plan.specs.declared.plan.Plan.{Plan}
use Rattle.mac_transmit.specs.Sender.{Sender}
use Rattle.mac_receive.specs.KeptReceiver.{KeptReception}
use Rattle.network.specs.Outputs.{half_bits}
use Rattle.net_parts.specs.declared.parcel.Parcel.{Parcel}
use Rattle.net_parts.specs.Windows.{lookahead, windows, time}
use Rattle.net_parts.specs.Machines.{span}
use Rattle.net_parts.specs.SegmentParts.{wiring}
use Rattle.net_parts.specs.Standing.{arrives, port_hears}
use Rattle.net_parts.specs.Parts.{is_segment_part}
use Rattle.net_parts.specs.Parcels.{true_symbols, true_parcel, arrived, refilled}
use Rattle.net_parts.proofs.LateRows.{map-map}
use Rattle.net_parts.proofs.RepeaterSteps.{length-span}
use Rattle.net_parts.proofs.WindowTimes.{some_lead, begins_in_run}
use Rattle.window_room.specs.NeededRoom.{Covers, IsDemandWithin, both_demands, sender_demand, receiver_demand}
use Rattle.window_room.specs.Rooms.{Room}
use Rattle.segment_engine.specs.declared.apart.Watch.{Watch}
use Rattle.segment_engine.specs.PartStates.{half_filled, turned_to_repeater}
use Rattle.segment_engine.specs.StationsApart.{CoversApart, behind_demand}
use Rattle.segment_engine.proofs.ChangedStations.{demands_alike}

module _ (plan : Plan) (wd : ℕ) (some : wd < windows plan) where
  abbrev L : ℕ
  L = lookahead plan.layout

  abbrev H : ℕ
  H = half_bits plan

  pub lead_some : 1 ≤ L
  lead_some = some_lead plan

  pub window_begins : wd * L < H
  window_begins = begins_in_run plan wd some

  pub window_starts : time plan wd ≡ wd * L
  window_starts = let b = window_begins in omega (arith, b)

  came : (e : ℕ) → true_parcel plan false wd e ≡ half_filled plan L wd 0 e
  unfolding true_symbols
  came e =
      let b = window_begins in
      let many : min L (H + L - wd * L) ≡ L - 0 = omega (arith, b) in
      let place : wd * L ≡ wd * L + 0 = omega arith in
      ap₂ (λ u n. let q : Parcel = record { edge = e; window = wd; to_repeater = false; symbols = span (arrives plan L e) u n; spoiled = false } in q) place many

  goes : (e : ℕ) → turned_to_repeater (min L (H - wd * L)) (half_filled plan L wd (min L (H - wd * L)) e) ≡ true_parcel plan true wd e
  unfolding true_symbols
  goes e =
      let n = min L (H - wd * L) in
      let first = span (port_hears plan e) (wd * L) n in
      let rest = span (arrives plan L e) (wd * L + n) (L - n) in
      let long = length-span (port_hears plan e) (wd * L) n in
      let cut : take n (first ++ rest) ≡ first = take-append-le n first rest (omega (arith, long)) ∙ take_all n first (omega (arith, long)) in
      ap (λ ss. let q : Parcel = record { edge = e; window = wd; to_repeater = true; symbols = ss; spoiled = false } in q) cut

  map_all : {X Y : Type 0} (f g : X → Y) (xs : List X) → ((x : X) → f x ≡ g x) → map f xs ≡ map g xs
  map_all f g [] h = refl
  map_all f g (x ∷ xs) h = ap₂ ◌∷◌ (h x) (map_all f g xs h)

  module _ (s : ℕ) (below : s < length plan.layout.segments) where
    is_segment : is_segment_part plan s ≡ true
    is_segment = grind (arith, nat_tests)

    pub parcels_came : arrived plan s wd ≡ map (half_filled plan L wd 0) (wiring plan.layout s).edges
    parcels_came =
        rw is_segment (map_all (true_parcel plan false wd) (half_filled plan L wd 0) (wiring plan.layout s).edges came)

    pub parcels_go : map (turned_to_repeater (min L (H - wd * L))) (map (half_filled plan L wd (min L (H - wd * L))) (wiring plan.layout s).edges) ≡ refilled plan s wd
    parcels_go =
        rw is_segment
        (map-map (turned_to_repeater (min L (H - wd * L))) (half_filled plan L wd (min L (H - wd * L))) (wiring plan.layout s).edges
        ∙ map_all (λ e. turned_to_repeater (min L (H - wd * L)) (half_filled plan L wd (min L (H - wd * L)) e)) (true_parcel plan true wd) (wiring plan.layout s).edges goes)

-- more half bits need more room
pub receiver_more : (k : KeptReception) (m n : ℕ) → m ≤ n → IsDemandWithin (receiver_demand m k) (receiver_demand n k)
receiver_more k m n h = record { fewer_rows = omega (arith, h); fewer_frames = omega (arith, h); fewer_octets = omega (arith, h) }

-- stations that stand before the same half bits need the same room
pub covers_since : (e n : ℕ) (ws ws' : List Watch) (ss : List Sender) (ks : List KeptReception) (room : Room) →
    ((i : ℕ) (w : Watch) → i < n → (get_or ws' i w).since ≡ (get_or ws i w).since) → CoversApart e n ws ss ks room → CoversApart e n ws' ss ks room
covers_since e n ws ws' ss ks room same c = λ w s k.
    let f = λ (i : ℕ). behind_demand e (get_or ws i w) (get_or ss i s) (get_or ks i k) in
    let g = λ (i : ℕ). behind_demand e (get_or ws' i w) (get_or ss i s) (get_or ks i k) in
    subst (λ d. Covers d room)
    (demands_alike n f g (λ i h. ap (λ x. both_demands (sender_demand (e - x) (get_or ss i s)) (receiver_demand (e - x) (get_or ks i k))) (sym (same i w h))))
    (c w s k)
