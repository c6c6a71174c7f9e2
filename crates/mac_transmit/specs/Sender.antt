-- A station's sender (IEEE 802.3, 4.2.3 and 4.2.8): its state and one half bit of it, which does five things
-- in order: finish, promote, defer, start, emit.
use Rattle.std.specs.Prelude.{ℕ, ◌≡◌, ◌+◌, ◌-◌, ◌*◌, ◌/◌, ◌^◌, ◌<◌, ◌≤◌, Bool, true, false, ◌==◌, ◌&&◌, nat_lt, nat_le, if◌then◌else◌, Option, Some, None, List, [], length, slice_index_or}
use Rattle.mac_parameters.specs.Parameters.{attempt_limit, half_bits_a_bit, interframe_gap, jam_size, preamble_length, slot_time, most_half_bits, last_backoff, most_draws}
use Rattle.manchester_line.specs.declared.Sym.{Sym}
use Rattle.manchester_line.specs.declared.Sym.TheVariants.{Idle}
use Rattle.manchester_line.specs.Line.{jam_at, line, is_signal}
use Rattle.frame_layout.specs.declared.queue.Ready.{Ready}
use Rattle.backoff_draw.specs.Draws.{Drawing, draw_of, drawn}
use Rattle.collision_log.specs.declared.row.Body.{Body}
use Rattle.collision_log.specs.declared.row.Body.TheVariants.{Sent, Collided, GivenUp, Cut}
use Rattle.mac_transmit.specs.declared.deference.Defer.{Defer}
use Rattle.mac_transmit.specs.declared.deference.Defer.TheVariants.{Watch, Busy, Gap}
use Rattle.mac_transmit.specs.declared.phase.Phase.{Phase}
use Rattle.mac_transmit.specs.declared.phase.Phase.TheVariants.{Rest, Waiting, Sending, Backoff}
use Rattle.mac_transmit.specs.Deference.{deferred, free_of, gap_of}
use Rattle.mac_transmit.specs.Laws.{carrier_after, IsAway}

-- A sender before half bit t: its queue, the place in it of its frame, from 0, and its attempt, from 1; the half bit in
-- which its last sending ended, if one did; and the half bit from which on its station had carrier in every half bit
-- before t, which is t where it heard Idle in the last.
pub record Sender : Type 0 where
  pub queue : List Ready
  pub draws : Drawing
  pub t : ℕ
  pub place : ℕ
  pub phase : Phase
  pub defer : Defer
  pub attempt : ℕ
  pub last_end : Option ℕ
  pub carrier_from : ℕ

-- a sender of a queue before half bit 0
abbrev pub new_sender : List Ready → Drawing → Sender
new_sender queue draws = record {
  queue = queue;
  draws = draws;
  t = 0;
  place = 0;
  phase = Rest;
  defer = Watch;
  attempt = 1;
  last_end = None;
  carrier_from = 0;
}

-- what stands for the frame at a place that a queue doesn't have: no octets
abbrev pub no_frame : Ready
no_frame = record { at = 0; frame = [] }

-- the octets, with check sequence, of the frame at a place, from 0, of a queue
unfoldable pub frame_at : List Ready → ℕ → List ℕ
frame_at queue place = (slice_index_or queue place no_frame).frame

-- the half bit from which on the frame at a place, from 0, may be sent
unfoldable pub ready_at : List Ready → ℕ → ℕ
ready_at queue place = (slice_index_or queue place no_frame).at

-- the number of half bits of a frame's line text
unfoldable pub line_length : List ℕ → ℕ
line_length octets = length (line octets)

-- half bit p, from 0, of a frame's line text
unfoldable pub line_at : List ℕ → ℕ → Sym
line_at octets p = slice_index_or (line octets) p Idle

-- the position, from 0, at which the jam begins: behind the preamble and the start frame delimiter, or else behind the
-- bit that was hit (4.2.3.2.4)
abbrev pub jam_start : ℕ → ℕ
jam_start hit =
    if nat_lt hit preamble_length then preamble_length else half_bits_a_bit * (hit / half_bits_a_bit + 1)

-- the half bits of a sending: with a hit up to the end of 32 bits of jam, else the whole line text
abbrev pub sending_length : List ℕ → Option ℕ → ℕ
sending_length octets None = line_length octets
sending_length octets (Some hit) = jam_start hit + jam_size

-- the symbol at position p, from 0, of a sending
abbrev pub symbol_of : List ℕ → Option ℕ → ℕ → Sym
symbol_of octets None p = line_at octets p
symbol_of octets (Some hit) p = if nat_lt p (jam_start hit) then line_at octets p else jam_at (p - jam_start hit)

-- 1. finish: the sender after a sending whose length is reached. Without a hit the frame is sent; with one it backs off
-- by as many slot times as it draws, or after 16 attempts gives the frame up, for excessive collisions (4.2.3.2.5)
abbrev pub sending_ended : Sender → Option ℕ → Sender
sending_ended s None = record s { place = s.place + 1; phase = Rest; last_end = Some s.t }
sending_ended s (Some hit) =
    if s.attempt == attempt_limit then record s { place = s.place + 1; phase = Rest; last_end = Some s.t }
    else record s {
      phase = Backoff (s.t + slot_time * draw_of s.draws.seed s.draws.station s.draws.made s.attempt);
      attempt = s.attempt + 1;
      draws = drawn s.draws;
      last_end = Some s.t;
    }

-- the row of a sending that began in half bit start and ends now
abbrev pub end_event : Sender → ℕ → Option ℕ → Body
end_event s start None = Sent (s.place + 1) start s.attempt
end_event s start (Some hit) =
    if s.attempt == attempt_limit then GivenUp (s.place + 1) start hit
    else Collided (s.place + 1) start s.attempt hit (draw_of s.draws.seed s.draws.station s.draws.made s.attempt)

-- whether a sending that began in half bit start has reached its length
abbrev pub has_ended : Sender → ℕ → Option ℕ → Bool
has_ended s start hit = nat_le (start + sending_length (frame_at s.queue s.place) hit) s.t

-- the sender after finish, for a sender in this phase
abbrev pub finished_from : Sender → Phase → Sender
finished_from s (Sending start hit) = if has_ended s start hit then sending_ended s hit else s
finished_from s _ = s

-- the same, by the sender's own phase
unfoldable pub finished : Sender → Sender
finished s = finished_from s s.phase

-- the row that a half bit gives, of a sender in this phase: that of the sending that it finishes, if it does
unfoldable pub event_from : Sender → Phase → Option Body
event_from s (Sending start hit) = if has_ended s start hit then Some (end_event s start hit) else None
event_from s _ = None

-- 2. promote: a frame that is ready, or a backoff that is over, makes a sender in this phase wait for its turn
abbrev pub promoted_from : Sender → Phase → Sender
promoted_from s Rest =
    if nat_lt s.place (length s.queue) && nat_le (ready_at s.queue s.place) s.t
    then record s { phase = Waiting; attempt = 1 } else s
promoted_from s (Backoff until) = if nat_le until s.t then record s { phase = Waiting } else s
promoted_from s _ = s

-- the same, by the sender's own phase
unfoldable pub promoted : Sender → Sender
promoted s = promoted_from s s.phase

-- 3. defer: whether a sending is under way in this phase
abbrev pub is_sending : Phase → Bool
is_sending (Sending start hit) = true
is_sending _ = false

-- whether a frame waits for its turn in this phase
abbrev pub is_waiting : Phase → Bool
is_waiting Waiting = true
is_waiting _ = false

-- the sender after a half bit of deference with carrier c (4.2.3.2.1)
unfoldable pub deferring : Sender → Bool → Sender
deferring s c = record s {
  defer = deferred s.defer c (is_sending s.phase) (is_waiting s.phase);
  carrier_from = carrier_after s.carrier_from s.t c;
}

-- whether the sender is free to start in a half bit with carrier c
unfoldable pub is_free : Sender → Bool → Bool
is_free s c = free_of s.defer c (is_waiting s.phase)

-- 4. start: the phase after half bit t, in which a station that waits starts where it is free
abbrev pub phase_started : ℕ → Phase → Bool → Phase
phase_started t Waiting true = Sending t None
phase_started t p free = p

-- the state of deference then: a station that starts is busy with its own sending
abbrev pub defer_started : Phase → Bool → Defer → Defer
defer_started Waiting true d = Busy true
defer_started p free d = d

-- the sender after its station starts, where it waits and is free
unfoldable pub sending_started : Sender → Bool → Sender
sending_started s free = record s { phase = phase_started s.t s.phase free; defer = defer_started s.phase free s.defer }

-- 5. emit: the hit of a sending after position p, from 0, with carrier or without: the first position with carrier
-- (collision detection, 4.2.3.2.4 and 7)
abbrev pub hit_at : Option ℕ → Bool → ℕ → Option ℕ
hit_at None true p = Some p
hit_at hit _ p = hit

-- what a station in this phase, with a frame of these octets, emits in half bit t with carrier c or without
unfoldable pub symbol_emitted : List ℕ → ℕ → Phase → Bool → Sym
symbol_emitted octets t (Sending start hit) c = symbol_of octets (hit_at hit c (t - start)) (t - start)
symbol_emitted octets t _ c = Idle

-- the same, of a sender with its own frame and time
abbrev pub emitted_from : Sender → Phase → Bool → Sym
emitted_from s p c = symbol_emitted (frame_at s.queue s.place) s.t p c

-- the phase after half bit t, in which a sending may get its hit
abbrev pub phase_after : ℕ → Phase → Bool → Phase
phase_after t (Sending start hit) c = Sending start (hit_at hit c (t - start))
phase_after t p c = p

-- the sender after what it emits in a half bit with carrier c or without
unfoldable pub emitting : Sender → Bool → Sender
emitting s c = record s { t = s.t + 1; phase = phase_after s.t s.phase c }

-- the sender after deference and start in a half bit with carrier c, but before what is emitted
abbrev pub after_turn : Sender → Bool → Sender
after_turn s c = sending_started (deferring s c) (is_free s c)

-- the sender in a half bit with carrier c, before what is emitted
abbrev pub before_emission : Sender → Bool → Sender
before_emission s c = after_turn (promoted (finished s)) c

-- What a half bit gives: the state after it, the symbol that is emitted in it, and at most one event.
pub record SendOutcome : Type 0 where
  pub state : Sender
  pub emitted : Sym
  pub event : Option Body

-- one half bit of a sender that hears this symbol
unfoldable pub sender_step : Sender → Sym → SendOutcome
sender_step s heard =
    let b = before_emission s (is_signal heard) in
    record {
      state = emitting b (is_signal heard);
      emitted = emitted_from b b.phase (is_signal heard);
      event = event_from s s.phase;
    }

-- the row of a sending that the end of the run cuts off, of a sender in this phase (profile)
abbrev pub cut_from : Sender → Phase → Option Body
cut_from s (Sending start hit) = Some (Cut (s.place + 1) start s.attempt hit)
cut_from s _ = None

-- the same, by the sender's own phase
unfoldable pub cut_of : Sender → Option Body
cut_of s = cut_from s s.phase

-- where a sending is under way there is its frame, as more says
abbrev pub HasItsFrame : Bool → Phase → Type 0
HasItsFrame more (Sending start hit) = more ≡ true
HasItsFrame more _ = Unit {0}

-- Where a frame waits or is under way there is one. A sending under way began in an earlier half bit, and since then
-- the station made no draw and is busy with it. A backoff ends by half bit 2,100,000,000.
abbrev pub PhaseIsSound : ℕ → ℕ → Bool → Defer → Phase → Type 0
PhaseIsSound t made more defer Rest = Unit {0}
PhaseIsSound t made more defer Waiting = more ≡ true
PhaseIsSound t made more defer (Sending start hit) =
    (more ≡ true) × (start < t) × (made ≤ start + most_draws) × (defer ≡ Busy true)
PhaseIsSound t made more defer (Backoff until) = (more ≡ true) × (until ≤ last_backoff)

-- The gap did not begin before the last sending had ended, nor before the station had heard Idle.
abbrev pub DeferIsSound : ℕ → Option ℕ → ℕ → Defer → Type 0
DeferIsSound t last_end carrier_from Watch = IsAway last_end interframe_gap t
DeferIsSound t last_end carrier_from (Busy was) = IsAway last_end 0 t
DeferIsSound t last_end carrier_from (Gap k was) =
    IsAway last_end k t × (t < carrier_from + k) × (1 ≤ k)

-- what each state of a sender keeps, up to half bit 2,000,000,000
pub record IsSender (s : Sender) : Type 0 where
  pub few : length s.queue < 2 ^ 32
  pub time : s.t ≤ most_half_bits
  pub drawn : s.draws.made ≤ s.t + most_draws
  pub first : 1 ≤ s.attempt
  pub last : s.attempt ≤ attempt_limit
  pub gap : gap_of s.defer ≤ interframe_gap
  pub place : s.place ≤ length s.queue
  pub phase_sound : PhaseIsSound s.t s.draws.made (nat_lt s.place (length s.queue)) s.defer s.phase
  pub defer_sound : DeferIsSound s.t s.last_end s.carrier_from s.defer
  pub carrier : s.carrier_from ≤ s.t
