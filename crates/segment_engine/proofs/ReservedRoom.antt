-- The room that was reserved is enough for stations that stand behind.
use Rattle.std.proofs.Common.{◌≡◌, ℕ, zero, suc, ◌+◌, ◌-◌, ◌<◌, ◌≤◌, eqb, List, [], ◌∷◌, length, get_or, ◌∙◌, arith, suc-mul}
use Rattle.mac_parameters.specs.Parameters.{most_octets}
use Rattle.mac_receive.specs.KeptReceiver.{KeptReception}
use Rattle.mac_transmit.specs.Sender.{Sender}
use Rattle.tap_lines.specs.TapLines.{TapLine}
use Rattle.window_room.specs.NeededRoom.{Demand, Covers, IsDemandWithin, both_demands, demand_times, receiver_demand, sender_demand, station_demand}
use Rattle.window_room.specs.Rooms.{Room}
use Rattle.window_room.proofs.PaidRoom.{any_stations}
use Rattle.segment_engine.specs.declared.apart.Watch.{Watch}
use Rattle.segment_engine.specs.declared.segment.Segment.{Segment}
use Rattle.segment_engine.specs.StationsApart.{CoversApart, StandAllApart, behind_demand, first_demands}
use Rattle.segment_engine.proofs.Beginnings.{is_station_of}
use Rattle.segment_engine.proofs.KeptParts.{covers_within, receiver_most}
use Rattle.segment_engine.proofs.QuietRoom.{in_a_row}
use Rattle.segment_engine.proofs.StepAll.{both_more}

-- demands of which none is more than another
first_times : (n : ℕ) (f : ℕ → Demand) (d : Demand) → ((i : ℕ) → i < n → IsDemandWithin (f i) d) → IsDemandWithin (first_demands n f) (demand_times n d)
first_times zero f d each = record { fewer_rows = omega arith; fewer_frames = omega arith; fewer_octets = omega arith }
first_times (suc n) f d each =
    let before = first_times n f d (λ i h. each i (omega (arith, h))) in
    let now = each n (omega arith) in
    record {
      fewer_rows = let x = before.fewer_rows in let y = now.fewer_rows in let z = suc-mul n d.rows in omega (arith, x, y, z);
      fewer_frames = let x = before.fewer_frames in let y = now.fewer_frames in let z = suc-mul n d.frames in omega (arith, x, y, z);
      fewer_octets = let x = before.fewer_octets in let y = now.fewer_octets in let z = suc-mul n d.octets in omega (arith, x, y, z);
    }

any_one : (s : Sender) (k : KeptReception) (n most : ℕ) → k.most ≡ most → IsDemandWithin (both_demands (sender_demand n s) (receiver_demand n k)) (station_demand most n)
any_one s k n most is =
    let a = any_stations (s ∷ []) (k ∷ []) n most (λ i d h. one_most i d h) in
    record {
      fewer_rows = let x = a.fewer_rows in omega (arith, x);
      fewer_frames = let x = a.fewer_frames in omega (arith, x);
      fewer_octets = let x = a.fewer_octets in omega (arith, x);
    }
  where
    one_most : (i : ℕ) (d : KeptReception) → i < 1 → (get_or (k ∷ []) i d).most ≡ most
    one_most zero d h = is
    one_most (suc i) d h = absurd (omega (arith, h))

pub room_reserved : (of : Segment) (from t e n : ℕ) (ls : List TapLine) (ws : List Watch) (ss : List Sender) (ks : List KeptReception) (room : Room) → StandAllApart of from t ls ws ss ks → e ≤ from + n →
    Covers (demand_times (length of.stations.items) (station_demand (most_octets (eqb of.plan.value.layout.format 2)) n)) room → CoversApart e (length of.stations.items) ws ss ks room
room_reserved of from t e n ls ws ss ks room all few covers = λ w s k.
    let most = most_octets (eqb of.plan.value.layout.format 2) in
    let f = λ (i : ℕ). behind_demand e (get_or ws i w) (get_or ss i s) (get_or ks i k) in
    covers_within (first_demands (length of.stations.items) f) (demand_times (length of.stations.items) (station_demand most n)) room
    (first_times (length of.stations.items) f (station_demand most n) (λ i h.
    let one = (all.each i w s k h).behind in
    let from_start = one.from_start in
    let left = e - (get_or ws i w).since in
    let is : (get_or ks i k).most ≡ most = one.receiver.same_most ∙ receiver_most of.plan.value (get_or of.stations.items i 0) (get_or ws i w).since (is_station_of of i h) in
    in_a_row (f i) (both_demands (sender_demand n (get_or ss i s)) (receiver_demand n (get_or ks i k))) (station_demand most n)
    (both_more (get_or ss i s) (get_or ks i k) left n (omega (arith, few, from_start)))
    (any_one (get_or ss i s) (get_or ks i k) n most is)))
    covers
