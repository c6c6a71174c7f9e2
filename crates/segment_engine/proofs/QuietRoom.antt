-- Stations to which nothing happens need no more room after several half bits than before them.
use Rattle.std.proofs.Common.{◌≡◌, ℕ, suc, ◌+◌, Bool, List, [], ◌∷◌, length, subst, sym, ap₂, arith}
use Rattle.manchester_line.specs.declared.Sym.{Sym}
use Rattle.mac_transmit.specs.Sender.{Sender, sender_step}
use Rattle.mac_transmit.specs.Calm.{after_all}
use Rattle.mac_receive.specs.Receiver.{Receiving, receiver_step, receiver_after}
use Rattle.mac_receive.specs.KeptReceiver.{KeptReception, Hears}
use Rattle.window_room.specs.NeededRoom.{Demand, IsDemandWithin, both_demands, event_demand, row_demand, sender_demand, receiver_demand, reception_demand}
use Rattle.window_room.proofs.PaidRoom.{paid, sendings_paid}
use Rattle.segment_engine.proofs.KeptParts.{most_step}

-- demands in a row
first_of : (a e b : Demand) → IsDemandWithin (both_demands a e) b → IsDemandWithin a b
first_of a e b h = record {
  fewer_rows = let x = h.fewer_rows in omega (arith, x);
  fewer_frames = let x = h.fewer_frames in omega (arith, x);
  fewer_octets = let x = h.fewer_octets in omega (arith, x);
}

pub in_a_row : (a b c : Demand) → IsDemandWithin a b → IsDemandWithin b c → IsDemandWithin a c
in_a_row a b c h i = record {
  fewer_rows = let x = h.fewer_rows in let y = i.fewer_rows in omega (arith, x, y);
  fewer_frames = let x = h.fewer_frames in let y = i.fewer_frames in omega (arith, x, y);
  fewer_octets = let x = h.fewer_octets in let y = i.fewer_octets in omega (arith, x, y);
}

pub both_within : (a b c d : Demand) → IsDemandWithin a c → IsDemandWithin b d → IsDemandWithin (both_demands a b) (both_demands c d)
both_within a b c d h i = record {
  fewer_rows = let x = h.fewer_rows in let y = i.fewer_rows in omega (arith, x, y);
  fewer_frames = let x = h.fewer_frames in let y = i.fewer_frames in omega (arith, x, y);
  fewer_octets = let x = h.fewer_octets in let y = i.fewer_octets in omega (arith, x, y);
}

pub same_within : (a : Demand) → IsDemandWithin a a
same_within a = record { fewer_rows = omega arith; fewer_frames = omega arith; fewer_octets = omega arith }

-- a sender after half bits
pub sender_needs : (hs : List Sym) (s : Sender) (n : ℕ) → IsDemandWithin (sender_demand n (after_all s hs)) (sender_demand (n + length hs) s)
sender_needs [] s n = let e : n ≡ n + 0 = omega arith in subst (λ x. IsDemandWithin (sender_demand n s) (sender_demand x s)) e (same_within (sender_demand n s))
sender_needs (h ∷ hs) s n =
    let next = (sender_step s h).state in
    let e : suc (n + length hs) ≡ n + suc (length hs) = omega arith in
    subst (λ x. IsDemandWithin (sender_demand n (after_all next hs)) (sender_demand x s)) e
    (in_a_row (sender_demand n (after_all next hs)) (sender_demand (n + length hs) next) (sender_demand (suc (n + length hs)) s) (sender_needs hs next n)
    (first_of (sender_demand (n + length hs) next) (row_demand (sender_step s h).event) (sender_demand (suc (n + length hs)) s) (sendings_paid s h (n + length hs))))

-- a receiver after them, where its station sends in all of them or in none
abbrev pub needs : ℕ → Receiving → Demand
needs n r = reception_demand r.most (length r.halves) n

pub receiver_needs : (hs : List Sym) (r : Receiving) (sending : Bool) (n : ℕ) → IsDemandWithin (needs n (receiver_after r hs sending)) (needs (n + length hs) r)
receiver_needs [] r sending n = let e : n ≡ n + 0 = omega arith in subst (λ x. IsDemandWithin (needs n r) (needs x r)) e (same_within (needs n r))
receiver_needs (h ∷ hs) r sending n =
    let one = receiver_step r h sending in
    let k = n + length hs in
    let e : suc k ≡ n + suc (length hs) = omega arith in
    let now : IsDemandWithin (reception_demand r.most (length one.state.halves) k) (needs (suc k) r) =
    first_of (reception_demand r.most (length one.state.halves) k) (event_demand one.event) (needs (suc k) r) (paid r h sending k) in
    let here : IsDemandWithin (needs k one.state) (needs (suc k) r) = subst (λ x. IsDemandWithin (reception_demand x (length one.state.halves) k) (needs (suc k) r)) (sym (most_step r h sending)) now in
    subst (λ x. IsDemandWithin (needs n (receiver_after one.state hs sending)) (needs x r)) e
    (in_a_row (needs n (receiver_after one.state hs sending)) (needs k one.state) (needs (suc k) r) (receiver_needs hs one.state sending n) here)

needs_kept : (r : Receiving) (k : KeptReception) (n : ℕ) → Hears r k → receiver_demand n k ≡ needs n r
needs_kept r k n h = ap₂ (λ a b. reception_demand a b n) h.same_most h.count

-- what is kept of a receiver before and after half bits
pub record GoesOn (hs : List Sym) (sending : Bool) (k k' : KeptReception) : Type 0 where
  pub receiver : Receiving
  pub before : Hears receiver k
  pub after : Hears (receiver_after receiver hs sending) k'

pub kept_needs : (hs : List Sym) (sending : Bool) (k k' : KeptReception) (n : ℕ) → GoesOn hs sending k k' → IsDemandWithin (receiver_demand n k') (receiver_demand (n + length hs) k)
kept_needs hs sending k k' n g =
    rw (needs_kept (receiver_after g.receiver hs sending) k' n g.after, needs_kept g.receiver k (n + length hs) g.before) (receiver_needs hs g.receiver sending n)
