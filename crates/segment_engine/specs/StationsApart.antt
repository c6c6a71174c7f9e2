-- Stations of a segment that go on one by one, as long as what each of them emits goes on: between two changes of what
-- it hears, a signal or Idle, a station stands behind (profile). Half bits, stations and taps count from 0.
use Rattle.std.specs.Prelude.{ℕ, zero, suc, ◌≡◌, ◌+◌, ◌-◌, ◌^◌, ◌<◌, ◌≤◌, true, false, Option, List, [], ◌++◌, length, max, min, slice_index_or}
use Rattle.collision_log.specs.declared.row.Body.{Body}
use Rattle.collision_log.specs.declared.row.Row.{Row}
use Rattle.manchester_line.specs.declared.Sym.{Sym}
use Rattle.manchester_line.specs.Line.{is_signal}
use Rattle.load_plan.specs.declared.plan.Plan.{Plan}
use Rattle.mac_receive.specs.KeptReceiver.{KeptReception, Hears}
use Rattle.mac_receive.specs.Receiver.{Reception, receiver_step}
use Rattle.mac_transmit.specs.Emissions.{IsSendingFor, emission_by}
use Rattle.mac_transmit.specs.Sender.{Sender, is_sending, sender_step}
use Rattle.network.specs.Attempts.{sender_at}
use Rattle.network.specs.Rows.{row_of}
use Rattle.network.specs.Times.{heard, emitted}
use Rattle.net_parts.specs.Standing.{receiver_at}
use Rattle.segment_engine.specs.SteadyPieces.{IsCalmAs}
use Rattle.segment_engine.specs.declared.apart.Watch.{Watch}
use Rattle.segment_engine.specs.declared.segment.Segment.{Segment}
use Rattle.tap_lines.specs.TapLines.{TapLine, no_line, symbol_on, heard_by_lines, class_on, class_by_lines}
use Rattle.window_room.specs.NeededRoom.{Demand, Covers, both_demands, receiver_demand, sender_demand}
use Rattle.window_room.specs.Rooms.{Room}

-- The half bits that are told ahead on a line, or that a station looks ahead, at most (profile).
abbrev pub most_told : ℕ
most_told = 4096

-- Station x, tap p of these lines, stands behind, before half bit `since` of its watch, which isn't before half bit
-- `from`. In each half bit from there on below `until` it hears a signal by the lines as they go on, or Idle in each,
-- as the watch says, and nothing happens at its sender. Below half bit `told` its line has what it emits if nothing
-- happens to it: a signal in each half bit, no longer than a sending lasts, or Idle in each; and the line goes on with
-- a signal where it sends, and else with Idle (4.2.8, profile).
pub record StandsBehind
    (plan : Plan) (x p L from : ℕ) (ls : List TapLine) (w : Watch) (s : Sender) (k : KeptReception) :
    Type 0 where
  pub from_start : from ≤ w.since
  pub ordered : w.since ≤ w.until
  pub within : w.until ≤ w.told
  pub sender : s ≡ sender_at plan x w.since
  pub receiver : Hears (receiver_at plan x w.since) k
  pub time : s.t ≡ w.since
  pub steps : k.steps ≡ w.since
  pub calm : IsCalmAs (w.until - w.since) w.carrier s
  pub steady : (a : ℕ) → w.since ≤ a → a < w.until → class_by_lines L a ls p ≡ w.carrier
  pub line : (j : ℕ) → w.since + j < w.told →
      symbol_on (slice_index_or ls p no_line) (w.since + j) ≡ emission_by s j s.phase
  pub signal : (j : ℕ) → w.since + j < w.told → is_signal (emission_by s j s.phase) ≡ is_sending s.phase
  pub goes : (a : ℕ) → w.since ≤ a → class_on (slice_index_or ls p no_line) a ≡ is_sending s.phase
  pub lasts : is_sending s.phase ≡ true → IsSendingFor s (w.told - w.since) s.phase

-- No reception is under way at a receiver whose station hears Idle without sending, by its watch (profile).
abbrev pub IsStillBy : Watch → Sender → KeptReception → Type 0
IsStillBy w s k = w.carrier ≡ false → is_sending s.phase ≡ false → k.halves ≡ 0

-- A station that stands before half bit u hears Idle in it without sending, by its watch (profile).
pub record EndsAt (u : ℕ) (w : Watch) (s : Sender) : Type 0 where
  pub now : w.since ≡ u
  pub idle : w.carrier ≡ false
  pub silent : is_sending s.phase ≡ false

-- In the half bits from `from` on below u station x, tap p of these lines, hears in the network what it hears by the
-- lines, with a signal where it hears one by the lines as they go on, and emits what stands on its own (profile).
pub record HearsByLines (plan : Plan) (x p L from u : ℕ) (ls : List TapLine) : Type 0 where
  pub hears : (a : ℕ) → from ≤ a → a < u → heard plan x a ≡ heard_by_lines L a ls p
  pub classes : (a : ℕ) → from ≤ a → a < u → class_by_lines L a ls p ≡ is_signal (heard_by_lines L a ls p)
  pub emits : (a : ℕ) → from ≤ a → a < u → emitted plan x a ≡ symbol_on (slice_index_or ls p no_line) a

-- A line says of half bit u what station x emits in it, and whether that is a signal (profile).
pub record SaysOf (plan : Plan) (x u : ℕ) (l : TapLine) : Type 0 where
  pub emits : emitted plan x u ≡ symbol_on l u
  pub class : class_on l u ≡ is_signal (symbol_on l u)

-- The event of the sender of station x in half bit u in the network (4.2.8).
abbrev pub sent_event : Plan → ℕ → ℕ → Option Body
sent_event plan x u = (sender_step (sender_at plan x u) (heard plan x u)).event

-- What the receiver of station x makes of half bit u in the network (4.2.9).
abbrev pub heard_reception : Plan → ℕ → ℕ → Reception
heard_reception plan x u = receiver_step (receiver_at plan x u) (heard plan x u) (is_signal (emitted plan x u))

-- The number of station i of a segment among all stations (profile).
abbrev pub number_on : Segment → ℕ → ℕ
number_on of i = slice_index_or of.stations.items i 0

-- Station i of a segment stands behind, before half bit `from` at no time, not beyond half bit u, and up to there
-- nothing happens to it; it doesn't look further ahead than it may (profile).
pub record StandsApart
    (of : Segment) (from u i : ℕ) (ls : List TapLine) (w : Watch) (s : Sender) (k : KeptReception) :
    Type 0 where
  pub behind : StandsBehind of.plan.value (number_on of i) i of.lookahead from ls w s k
  pub since : w.since ≤ u
  pub until : u ≤ w.until
  pub within : w.until ≤ w.since + most_told
  pub still : w.since < u → IsStillBy w s k

-- All stations of a segment do so (profile).
pub record StandAllApart
    (of : Segment) (from u : ℕ) (ls : List TapLine) (ws : List Watch) (ss : List Sender)
    (ks : List KeptReception) :
    Type 0 where
  pub senders : length ss ≡ length of.stations.items
  pub receivers : length ks ≡ length of.stations.items
  pub watches : length of.stations.items ≡ length ws
  pub taps : length of.stations.items ≤ length ls
  pub each : (i : ℕ) (w : Watch) (s : Sender) (k : KeptReception) → i < length of.stations.items →
      StandsApart of from u i ls (slice_index_or ws i w) (slice_index_or ss i s) (slice_index_or ks i k)

-- No reception is under way at any of them that goes on hearing Idle without sending, by its watch (profile).
abbrev pub AreStill : Segment → List Watch → List Sender → List KeptReception → Type 0
AreStill of ws ss ks =
    (i : ℕ) (w : Watch) (s : Sender) (k : KeptReception) → i < length of.stations.items →
    (slice_index_or ws i w).since < (slice_index_or ws i w).until →
    IsStillBy (slice_index_or ws i w) (slice_index_or ss i s) (slice_index_or ks i k)

-- All stations of a segment hear by the lines from half bit `from` on below half bit u (profile).
abbrev pub HearAllByLines : Segment → ℕ → ℕ → List TapLine → Type 0
HearAllByLines of from u ls =
    (i : ℕ) → i < length of.stations.items → HearsByLines of.plan.value (number_on of i) i of.lookahead from u ls

-- What a station that stands behind can need up to half bit e (profile).
abbrev pub behind_demand : ℕ → Watch → Sender → KeptReception → Demand
behind_demand e w s k = both_demands (sender_demand (e - w.since) s) (receiver_demand (e - w.since) k)

-- What the first n of some demands come to (profile).
abbrev pub first_demands : ℕ → (ℕ → Demand) → Demand
first_demands zero f = record { rows = 0; frames = 0; octets = 0 }
first_demands (suc n) f = both_demands (first_demands n f) (f n)

-- There is room for what n stations that stand behind can need up to half bit e, beside any other demand (profile).
abbrev pub CoversApart : ℕ → ℕ → List Watch → List Sender → List KeptReception → Room → Type 0
CoversApart e n ws ss ks room =
    (w : Watch) (s : Sender) (k : KeptReception) →
    Covers
    (first_demands n (λ i. behind_demand e (slice_index_or ws i w) (slice_index_or ss i s) (slice_index_or ks i k)))
    room

-- A station's line begins at half bit u at the latest, and takes what the station emits up to `end` without memory;
-- the half bits for which it has room fit a number of 64 bits (profile).
pub record TellsUpTo (u end : ℕ) (l : TapLine) : Type 0 where
  pub begun : l.base ≤ u
  pub takes : end ≤ l.base + length l.symbols + l.room
  pub fits : l.base + length l.symbols + l.room < 2 ^ 64

-- A line of the same tap, with room for as much, which says the same of half bits below u, with a signal in the place
-- of a signal (profile).
pub record IsToldAnew (u : ℕ) (l l' : TapLine) : Type 0 where
  pub place : l'.at ≡ l.at
  pub wait : l'.delay ≡ l.delay
  pub keeps : l'.backlog ≡ l.backlog
  pub begins : l'.base ≡ l.base
  pub size : length l'.symbols + l'.room ≡ length l.symbols + l.room
  pub before : (a : ℕ) → a < u → symbol_on l' a ≡ symbol_on l a
  pub classes : (a : ℕ) → a < u → class_on l' a ≡ class_on l a

-- The first n lines are so, and the others are as they were (profile).
pub record AreToldAnew (u n : ℕ) (ls ls' : List TapLine) : Type 0 where
  pub many : length ls' ≡ length ls
  pub told : (r : ℕ) → r < n → IsToldAnew u (slice_index_or ls r no_line) (slice_index_or ls' r no_line)
  pub others : (r : ℕ) → n ≤ r → slice_index_or ls' r no_line ≡ slice_index_or ls r no_line

-- What a line has of a station's sender, before half bit u + 1, from there on below half bit `told`, if nothing happens
-- to it: a signal in each half bit, no longer than its sending lasts, or Idle in each; and it goes on so (4.2.8,
-- profile).
pub record TellsOn (u told : ℕ) (l : TapLine) (s : Sender) : Type 0 where
  pub from : u + 1 ≤ told
  pub line : (j : ℕ) → u + 1 + j < told → symbol_on l (u + 1 + j) ≡ emission_by s j s.phase
  pub signal : (j : ℕ) → u + 1 + j < told → is_signal (emission_by s j s.phase) ≡ is_sending s.phase
  pub goes : (a : ℕ) → u + 1 ≤ a → class_on l a ≡ is_sending s.phase
  pub lasts : is_sending s.phase ≡ true → IsSendingFor s (told - (u + 1)) s.phase

-- A line that is told anew from half bit u on, in which its station emitted e (profile).
pub record IsAnew (u told : ℕ) (e : Sym) (l l' : TapLine) (s : Sender) : Type 0 where
  pub same : IsToldAnew u l l'
  pub now : symbol_on l' u ≡ e
  pub class : class_on l' u ≡ is_signal e
  pub tells : TellsOn u told l' s

-- A watch that doesn't go beyond a half bit (profile).
abbrev pub lowered_watch : ℕ → Watch → Watch
lowered_watch a w = record w { until = min w.until (max a w.since) }

-- The rows of half bit u of the first n stations of these numbers: of each one's sender, and then of its receiver
-- (profile).
abbrev pub rows_of_both : ℕ → List ℕ → (ℕ → Option Body) → (ℕ → Option Body) → ℕ → List Row
rows_of_both u ks sent received zero = []
rows_of_both u ks sent received (suc n) =
    (rows_of_both u ks sent received n ++ row_of u (slice_index_or ks n 0) (sent n))
    ++ row_of u (slice_index_or ks n 0) (received n)
