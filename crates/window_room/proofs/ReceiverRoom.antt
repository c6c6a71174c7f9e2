-- Room that is enough for half bits that are to come, half bit by half bit.
use Rattle.std.proofs.Common.{◌≡◌, ℕ, suc, ◌+◌, ◌<◌, ◌≤◌, Bool, true, false, Option, Some, None, List, [], ◌∷◌, length, refl, sym, ap, ap₂, subst, ◌∙◌, arith}
use Rattle.std.specs.Prelude.{if◌then◌else◌, nat_lt}
use Rattle.mac_parameters.specs.Parameters.{shortest_line_text}
use Rattle.manchester_line.specs.declared.Sym.{Sym}
use Rattle.manchester_line.specs.declared.Sym.TheVariants.{Idle, Hi, Lo, Clash}
use Rattle.manchester_line.specs.Reading.{reading, octets_of_bits, spare_of_bits}
use Rattle.frame_layout.specs.Frame.{verdict_of}
use Rattle.frame_layout.specs.declared.verdict.Verdict.{Verdict}
use Rattle.frame_layout.specs.declared.verdict.Verdict.TheVariants.{Good, Fragment, TooLong, FcsError, AlignError}
use Rattle.collision_log.specs.declared.row.Body.{Body}
use Rattle.collision_log.specs.declared.row.Body.TheVariants.{Received, Dropped}
use Rattle.collision_log.specs.declared.row.Why.TheVariants as why
use Rattle.mac_receive.specs.Receiver.{Receiving, receiver_step, left_halves, quiet, reception_ended, extended, judged_row, judged_octets, reading_row, reading_octets}
use Rattle.mac_receive.specs.KeptReceiver.{KeptReception, Hears}
use Rattle.window_room.specs.Rooms.{Room, KeepsRoom}
use Rattle.window_room.specs.NeededRoom.{Covers, Demand, IsDemandWithin, both_demands, event_demand, reception_demand, receiver_demand}
use Rattle.window_room.proofs.PaidRoom.{paid}

-- the octets of a frame that is received are as many as its row says
Sized : Option Body → List ℕ → Type 0
Sized (Some (Received n)) octets = length octets ≤ n
Sized _ octets = Unit {0}

judged_sized : (v : Verdict) (octets : List ℕ) (halves : ℕ) → Sized (Some (judged_row v (length octets) halves)) (judged_octets v octets)
unfolding Sized
judged_sized Good octets halves = omega arith
judged_sized Fragment octets halves = tt
judged_sized TooLong octets halves = tt
judged_sized FcsError octets halves = tt
judged_sized AlignError octets halves = tt

spoiled_sized : (t : Bool) (halves : ℕ) (octets : List ℕ) → Sized (Some (if t then Dropped why.Fragment halves else Dropped why.Damaged halves)) octets
unfolding Sized
spoiled_sized true halves octets = tt
spoiled_sized false halves octets = tt

reading_sized : (o : Option (List Bool)) (most halves : ℕ) → Sized (Some (reading_row o most halves)) (reading_octets o most)
reading_sized None most halves = spoiled_sized (nat_lt halves shortest_line_text) halves []
reading_sized (Some bits) most halves = judged_sized (verdict_of (octets_of_bits bits) (spare_of_bits bits) most) (octets_of_bits bits) halves

ended_sized : (r : Receiving) (hs : List Sym) → Sized (reception_ended r hs).event (reception_ended r hs).octets
unfolding Sized
ended_sized r [] = tt
ended_sized r (s ∷ ss) = reading_sized (reading (left_halves r.lose (s ∷ ss))) r.most (length (s ∷ ss))

idle_sized : (r : Receiving) (d : Bool) → Sized (if d then quiet (record r { deaf = false; halves = [] }) else reception_ended r r.halves).event (if d then quiet (record r { deaf = false; halves = [] }) else reception_ended r r.halves).octets
unfolding Sized
idle_sized r true = tt
idle_sized r false = ended_sized r r.halves

signal_sized : (r : Receiving) (s : Sym) (d : Bool) → Sized (if d then quiet r else extended r s).event (if d then quiet r else extended r s).octets
unfolding Sized
signal_sized r s true = tt
signal_sized r s false = tt

sized : (r : Receiving) (heard : Sym) (sending : Bool) → Sized (receiver_step r heard sending).event (receiver_step r heard sending).octets
unfolding Sized
sized r heard true = tt
sized r Idle false = idle_sized r r.deaf
sized r Hi false = signal_sized r Hi r.deaf
sized r Lo false = signal_sized r Lo r.deaf
sized r Clash false = signal_sized r Clash r.deaf

few_of : (e : Option Body) (octets : List ℕ) (n : ℕ) → Sized e octets → e ≡ Some (Received n) → length octets ≤ n
unfolding Sized
few_of e octets n s is = let P : Option Body → Type 0 = λ x. Sized x octets in subst P is s

pub octets_few : (r : Receiving) (heard : Sym) (sending : Bool) (n : ℕ) (octets : List ℕ) → (receiver_step r heard sending).event ≡ Some (Received n) → octets ≡ (receiver_step r heard sending).octets → length octets ≤ n
octets_few r heard sending n octets is e = let few : length (receiver_step r heard sending).octets ≤ n = few_of (receiver_step r heard sending).event (receiver_step r heard sending).octets n (sized r heard sending) is in omega (arith, few, ap length e)

-- room for what is demanded is room for what is taken, and leaves the rest
covers_second : (after e before : Demand) (room : Room) → IsDemandWithin (both_demands after e) before → Covers before room → Covers e room
covers_second after e before room w a = record {
  for_rows = omega (arith, w.fewer_rows, a.for_rows);
  for_frames = omega (arith, w.fewer_frames, a.for_frames);
  for_octets = omega (arith, w.fewer_octets, a.for_octets);
}

covers_left : (after e before other : Demand) (old new : Room) → IsDemandWithin (both_demands after e) before → KeepsRoom e.rows e.frames e.octets old new → Covers (both_demands other before) old → Covers (both_demands other after) new
covers_left after e before other old new w k a = record {
  for_rows = omega (arith, w.fewer_rows, a.for_rows, k.keeps_rows);
  for_frames = omega (arith, w.fewer_frames, a.for_frames, k.keeps_frames);
  for_octets = omega (arith, w.fewer_octets, a.for_octets, k.keeps_octets);
}

same_demand : (r : Receiving) (k : KeptReception) (n most : ℕ) → Hears r k → r.most ≡ most → receiver_demand n k ≡ reception_demand most (length r.halves) n
same_demand r k n most h e = ap₂ (λ m c. reception_demand m c n) (h.same_most ∙ e) h.count

pub fits : (r : Receiving) (k : KeptReception) (heard : Sym) (sending : Bool) (room : Room) (e : Option Body) → Hears r k → e ≡ (receiver_step r heard sending).event → Covers (receiver_demand 1 k) room → Covers (event_demand e) room
fits r k heard sending room e h is a =
    let P : Option Body → Type 0 = λ x. Covers (event_demand x) room in
    let Q : Demand → Type 0 = λ d. Covers d room in
    let before : Covers (reception_demand r.most (length r.halves) 1) room = subst Q (same_demand r k 1 r.most h refl) a in
    subst P (sym is)
    (covers_second (reception_demand r.most (length (receiver_step r heard sending).state.halves) 0) (event_demand (receiver_step r heard sending).event) (reception_demand r.most (length r.halves) 1) room (paid r heard sending 0) before)

pub next : (r : Receiving) (k k' : KeptReception) (heard : Sym) (sending : Bool) (n : ℕ) (e : Option Body) (other : Demand) (old new : Room) → Hears r k → Hears (receiver_step r heard sending).state k' → (receiver_step r heard sending).state.most ≡ r.most
    → e ≡ (receiver_step r heard sending).event → KeepsRoom (event_demand e).rows (event_demand e).frames (event_demand e).octets old new
    → Covers (both_demands other (receiver_demand (suc n) k)) old → Covers (both_demands other (receiver_demand n k')) new
next r k k' heard sending n e other old new h h' m is keeps a =
    let P : Option Body → Type 0 = λ x. KeepsRoom (event_demand x).rows (event_demand x).frames (event_demand x).octets old new in
    let Q : Demand → Type 0 = λ d. Covers (both_demands other d) old in
    let R : Demand → Type 0 = λ d. Covers (both_demands other d) new in
    let after : Demand = reception_demand r.most (length (receiver_step r heard sending).state.halves) n in
    let before : Demand = reception_demand r.most (length r.halves) (suc n) in
    subst R (sym (same_demand (receiver_step r heard sending).state k' n r.most h' m))
    (covers_left after (event_demand (receiver_step r heard sending).event) before other old new (paid r heard sending n) (subst P is keeps) (subst Q (same_demand r k (suc n) r.most h refl) a))

-- room for a window is room for its first half bit
pub first_half_bit : (k' k : KeptReception) (old new : Room) (n m : ℕ) → 0 < m → ((j : ℕ) (other : Demand) → Covers (both_demands other (receiver_demand (n + j) k')) old → Covers (both_demands other (receiver_demand (m + j) k)) new) → Covers (receiver_demand n k') old
    → Covers (receiver_demand 1 k) new
first_half_bit k' k old new n m some left a =
    let b : Covers (both_demands (record { rows = 0; frames = 0; octets = 0 }) (receiver_demand (m + 0) k)) new =
    left 0 (record { rows = 0; frames = 0; octets = 0 }) (record {
      for_rows = omega (arith, a.for_rows);
      for_frames = omega (arith, a.for_frames);
      for_octets = omega (arith, a.for_octets);
    }) in
    record {
      for_rows = omega (arith, b.for_rows, some);
      for_frames = omega (arith, b.for_frames, some);
      for_octets = omega (arith, b.for_octets, some);
    }
