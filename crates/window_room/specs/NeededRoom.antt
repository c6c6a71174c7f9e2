-- Room that is enough for what stations may still log and capture in half bits that are to come, whatever they are
-- (profile).
use Rattle.std.specs.Prelude.{ℕ, suc, ◌+◌, ◌*◌, ◌/◌, ◌≤◌, Option, List, [], ◌∷◌, length, min}
use Rattle.mac_parameters.specs.Parameters.{check_sequence, half_bits_an_octet, preamble_length}
use Rattle.collision_log.specs.declared.row.Body.{Body}
use Rattle.mac_receive.specs.Receiver.{with_event}
use Rattle.mac_receive.specs.KeptReceiver.{KeptReception}
use Rattle.mac_transmit.specs.Sender.{Sender}
use Rattle.window_room.specs.Receptions.{count_received, least_reception, octets_received}
use Rattle.window_room.specs.Rooms.{Room, RoomFor}
use Rattle.window_room.specs.Sendings.{elapsed}

-- Rows, frames, and octets of frames with their check sequences, for which room is asked (profile).
pub record Demand : Type 0 where
  pub rows : ℕ
  pub frames : ℕ
  pub octets : ℕ

-- Two demands together (profile).
abbrev pub both_demands : Demand → Demand → Demand
both_demands a b = record { rows = a.rows + b.rows; frames = a.frames + b.frames; octets = a.octets + b.octets }

-- One demand is at most the other, in each of the three (profile).
pub record IsDemandWithin (a b : Demand) : Type 0 where
  pub fewer_rows : a.rows ≤ b.rows
  pub fewer_frames : a.frames ≤ b.frames
  pub fewer_octets : a.octets ≤ b.octets

-- There is room for a demand (profile).
abbrev pub Covers : Demand → Room → Type 0
Covers d room = RoomFor d.rows d.frames d.octets room

-- What an event of a receiver in a half bit needs (profile).
abbrev pub event_demand : Option Body → Demand
event_demand event = record {
  rows = length (with_event event []);
  frames = count_received (with_event event []);
  octets = octets_received (with_event event []);
}

-- What a row alone needs, where an event gives one (profile).
abbrev pub row_demand : Option Body → Demand
row_demand event = record { rows = length (with_event event []); frames = 0; octets = 0 }

-- What n more half bits can need of a receiver of frames of at most so many octets before the check sequence, whose
-- reception under way has had h half bits: a row has two half bits at least, a frame the least reception, and each
-- ends with a half bit that is Idle (profile).
abbrev pub reception_demand : ℕ → ℕ → ℕ → Demand
reception_demand most h n = record {
  rows = (n + min 1 h) / 2;
  frames = (n + min least_reception h) / suc least_reception;
  octets = (n + min (half_bits_an_octet * (most + check_sequence)) h) / half_bits_an_octet;
}

-- The same, of what a receiver keeps (profile).
abbrev pub receiver_demand : ℕ → KeptReception → Demand
receiver_demand n k = reception_demand k.most k.halves n

-- What n half bits can need of any receiver of frames of at most so many octets before the check sequence (profile).
abbrev pub window_demand : ℕ → ℕ → Demand
window_demand most n = record {
  rows = (n + 1) / 2;
  frames = 1 + n / least_reception;
  octets = most + check_sequence + n / half_bits_an_octet;
}

-- What n more half bits can need of a sender: each row is the end of a sending, which has a preamble and a start frame
-- delimiter at least (profile, by 3.2.1).
abbrev pub sender_demand : ℕ → Sender → Demand
sender_demand n s = record {
  rows = (n + min preamble_length (elapsed s.t s.phase)) / preamble_length;
  frames = 0;
  octets = 0;
}

-- What n half bits can need of any station with frames of at most so many octets before the check sequence: of its
-- receiver and its sender (profile).
abbrev pub station_demand : ℕ → ℕ → Demand
station_demand most n =
    both_demands (window_demand most n) (record { rows = 1 + n / preamble_length; frames = 0; octets = 0 })

-- A demand so many times (profile).
abbrev pub demand_times : ℕ → Demand → Demand
demand_times m d = record { rows = m * d.rows; frames = m * d.frames; octets = m * d.octets }

-- What n more half bits can need of stations with these senders and receivers (profile).
abbrev pub stations_demand : ℕ → List Sender → List KeptReception → Demand
stations_demand n (s ∷ ss) (k ∷ ks) =
    both_demands (both_demands (sender_demand n s) (receiver_demand n k)) (stations_demand n ss ks)
stations_demand n _ _ = record { rows = 0; frames = 0; octets = 0 }
