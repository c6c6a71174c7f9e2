-- The room that stations need, half bit by half bit.
use Rattle.std.proofs.Common.{◌≡◌, ℕ, suc, Option, sym, subst, arith}
use Rattle.manchester_line.specs.declared.Sym.{Sym}
use Rattle.collision_log.specs.declared.row.Body.{Body}
use Rattle.mac_transmit.specs.Sender.{Sender, sender_step}
use Rattle.mac_receive.specs.KeptReceiver.{KeptReception}
use Rattle.window_room.specs.Rooms.{Room, KeepsRoom}
use Rattle.window_room.specs.NeededRoom.{Demand, Covers, IsDemandWithin, both_demands, row_demand, sender_demand, receiver_demand}
use Rattle.window_room.proofs.PaidRoom.{sendings_paid}

within : (a e b d : Demand) (room : Room) → IsDemandWithin (both_demands a e) b → Covers (both_demands b d) room → Covers e room
within a e b d room p c = record {
  for_rows = let x = p.fewer_rows in let y = c.for_rows in omega (arith, x, y);
  for_frames = let x = p.fewer_frames in let y = c.for_frames in omega (arith, x, y);
  for_octets = let x = p.fewer_octets in let y = c.for_octets in omega (arith, x, y);
}

after_event : (a e b d : Demand) (old new : Room) → IsDemandWithin (both_demands a e) b → KeepsRoom e.rows e.frames e.octets old new → Covers (both_demands b d) old → Covers (both_demands a d) new
after_event a e b d old new p k c = record {
  for_rows = let x = p.fewer_rows in let y = c.for_rows in let z = k.keeps_rows in omega (arith, x, y, z);
  for_frames = let x = p.fewer_frames in let y = c.for_frames in let z = k.keeps_frames in omega (arith, x, y, z);
  for_octets = let x = p.fewer_octets in let y = c.for_octets in let z = k.keeps_octets in omega (arith, x, y, z);
}

pub second : (a d : Demand) (room : Room) → Covers (both_demands a d) room → Covers d room
second a d room c = record {
  for_rows = let y = c.for_rows in omega (arith, y);
  for_frames = let y = c.for_frames in omega (arith, y);
  for_octets = let y = c.for_octets in omega (arith, y);
}

-- demands put together in another order
inner_first : (a b c : Demand) (room : Room) → Covers (both_demands a (both_demands b c)) room → Covers (both_demands b (both_demands a c)) room
inner_first a b c room h = record {
  for_rows = let y = h.for_rows in omega (arith, y);
  for_frames = let y = h.for_frames in omega (arith, y);
  for_octets = let y = h.for_octets in omega (arith, y);
}

from_inner : (a b c : Demand) (room : Room) → Covers (both_demands b (both_demands a c)) room → Covers (both_demands (both_demands a b) c) room
from_inner a b c room h = record {
  for_rows = let y = h.for_rows in omega (arith, y);
  for_frames = let y = h.for_frames in omega (arith, y);
  for_octets = let y = h.for_octets in omega (arith, y);
}

to_right : (a b c : Demand) (room : Room) → Covers (both_demands (both_demands a b) c) room → Covers (both_demands a (both_demands b c)) room
to_right a b c room h = record {
  for_rows = let y = h.for_rows in omega (arith, y);
  for_frames = let y = h.for_frames in omega (arith, y);
  for_octets = let y = h.for_octets in omega (arith, y);
}

-- there is room for what a sender does
pub event_covered : (s : Sender) (h : Sym) (k : KeptReception) (e : Option Body) (room : Room) → e ≡ (sender_step s h).event → Covers (both_demands (sender_demand 1 s) (receiver_demand 1 k)) room → Covers (row_demand e) room
event_covered s h k e room is c =
    let P : Option Body → Type 0 = λ x. Covers (row_demand x) room in
    subst P (sym is) (within (sender_demand 0 (sender_step s h).state) (row_demand (sender_step s h).event) (sender_demand 1 s) (receiver_demand 1 k) room (sendings_paid s h 0) c)

-- and then still for n half bits, beside another demand
after_sender : (n : ℕ) (s : Sender) (h : Sym) (e : Option Body) (d : Demand) (old new : Room) → e ≡ (sender_step s h).event → KeepsRoom (row_demand e).rows 0 0 old new → Covers (both_demands (sender_demand (suc n) s) d) old → Covers (both_demands (sender_demand n (sender_step s h).state) d) new
after_sender n s h e d old new is keeps c =
    let P : Option Body → Type 0 = λ x. KeepsRoom (row_demand x).rows 0 0 old new in
    after_event (sender_demand n (sender_step s h).state) (row_demand (sender_step s h).event) (sender_demand (suc n) s) d old new (sendings_paid s h n) (subst P is keeps) c

pub receiver_covered : (s : Sender) (h : Sym) (k : KeptReception) (e : Option Body) (old new : Room) → e ≡ (sender_step s h).event → KeepsRoom (row_demand e).rows 0 0 old new → Covers (both_demands (sender_demand 1 s) (receiver_demand 1 k)) old → Covers (receiver_demand 1 k) new
receiver_covered s h k e old new is keeps c =
    second (sender_demand 0 (sender_step s h).state) (receiver_demand 1 k) new (after_sender 0 s h e (receiver_demand 1 k) old new is keeps c)

pub station_left : (n : ℕ) (other : Demand) (s s' : Sender) (h : Sym) (k k' : KeptReception) (e : Option Body) (old mid new : Room) → s' ≡ (sender_step s h).state → e ≡ (sender_step s h).event → KeepsRoom (row_demand e).rows 0 0 old mid →
    ((m : ℕ) (others : Demand) → Covers (both_demands others (receiver_demand (suc m) k)) mid → Covers (both_demands others (receiver_demand m k')) new) →
    Covers (both_demands other (both_demands (sender_demand (suc n) s) (receiver_demand (suc n) k))) old →
    Covers (both_demands other (both_demands (sender_demand n s') (receiver_demand n k'))) new
station_left n other s s' h k k' e old mid new state is keeps received c =
    let sent = (sender_step s h).state in
    let P : Sender → Type 0 = λ x. Covers (both_demands other (both_demands (sender_demand n x) (receiver_demand n k'))) new in
    let one = inner_first other (sender_demand (suc n) s) (receiver_demand (suc n) k) old c in
    let two = after_sender n s h e (both_demands other (receiver_demand (suc n) k)) old mid is keeps one in
    let three = from_inner other (sender_demand n sent) (receiver_demand (suc n) k) mid two in
    let four = received n (both_demands other (sender_demand n sent)) three in
    subst P (sym state) (to_right other (sender_demand n sent) (receiver_demand n k') new four)
