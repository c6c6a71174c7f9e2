-- What goes on of a segment, and where it stands in the network (profile). Half bits, segments and taps count from 0.
use Rattle.std.specs.Prelude.{ℕ, ◌≡◌, ◌+◌, ◌*◌, ◌^◌, ◌<◌, ◌≤◌, List, length, map, slice_index_or}
use Rattle.net_parts.specs.SegmentParts.{wiring}
use Rattle.net_parts.specs.Standing.{captures_at, rows_of_devices}
use Rattle.segment_engine.specs.declared.running.Running.{Running}
use Rattle.segment_engine.specs.declared.segment.Segment.{Segment}
use Rattle.segment_engine.specs.KnownLines.{KnowLines}
use Rattle.segment_engine.specs.StationsApart.{AreStill, HearAllByLines, StandAllApart, most_told}
use Rattle.tap_lines.specs.TapLines.{TapLine, no_line, IsReachOf}

-- The half bits that stations may stand behind at the front of a window (profile).
abbrev pub most_behind : ℕ
most_behind = 2048

-- Lines keep their last symbol, and what still reaches a tap from half bit `from` on. They take without memory what
-- comes in a window and what is told ahead, where stations stand behind from `from` on and a window has L half bits;
-- and what they take fits a number of 64 bits (profile).
pub record HaveRoomFrom (from L : ℕ) (ls : List TapLine) : Type 0 where
  pub last : (r : ℕ) → r < length ls → 1 ≤ (slice_index_or ls r no_line).backlog
  pub keep : (r : ℕ) → r < length ls → from ≤ (slice_index_or ls r no_line).base + (slice_index_or ls r no_line).backlog
  pub size : (r : ℕ) → r < length ls →
      2 * (slice_index_or ls r no_line).backlog + 2 * L + most_behind + 2 * most_told
      ≤ length (slice_index_or ls r no_line).symbols + (slice_index_or ls r no_line).room
  pub fits : (r : ℕ) → r < length ls →
      length (slice_index_or ls r no_line).symbols + (slice_index_or ls r no_line).room < 2 ^ 63

-- A segment goes on in the network at half bit a.t: its stations stand behind, from half bit a.from on, and hear by its
-- lines, which say what was emitted and what comes in for its ports below `front`, where these end; what was logged and
-- captured is all of that below half bit a.t (profile).
pub record GoesOnAt (of : Segment) (front : ℕ) (a : Running) : Type 0 where
  pub begun : a.from ≤ a.t
  pub upto : a.t ≤ front
  pub stations : StandAllApart of a.from a.t a.lines.items a.watches.items a.senders.items a.receivers.items
  pub still : AreStill of a.watches.items a.senders.items a.receivers.items
  pub lines : KnowLines of.plan.value (wiring of.plan.value.layout of.number) of.lookahead a.t front a.lines.items
  pub ends : (p : ℕ) → p < length (wiring of.plan.value.layout of.number).edges →
      (slice_index_or a.lines.items (length of.stations.items + p) no_line).base
      + length (slice_index_or a.lines.items (length of.stations.items + p) no_line).symbols ≡ front
  pub hears : HearAllByLines of a.from a.t a.lines.items
  pub logged : a.room.rows ≡ rows_of_devices of.plan.value of.stations.items a.t
  pub kept : a.room.captures ≡ map (λ k. captures_at of.plan.value k a.t) of.stations.items
  pub room : HaveRoomFrom a.from of.lookahead a.lines.items
  pub reach : IsReachOf a.far of.lookahead a.lines.items
  pub listing : a.loud.room ≡ length a.lines.items
  pub late : a.late.room ≡ length a.lines.items
  pub piece : most_told + of.lookahead ≤ length a.piece.items

-- At the front of a window no station stands far behind (profile).
pub record IsRunningAt (of : Segment) (front : ℕ) (a : Running) : Type 0 where
  pub goes : GoesOnAt of front a
  pub near : a.t ≤ a.from + most_behind
