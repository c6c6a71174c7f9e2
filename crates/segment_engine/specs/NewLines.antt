-- The lines of a segment's taps before half bit 0 (profile). Taps and edges count from 0.
use Rattle.std.specs.Prelude.{ℕ, ◌≡◌, ◌+◌, ◌-◌, ◌*◌, ◌^◌, ◌<◌, ◌≤◌, false, nat_lt, if◌then◌else◌, max, List, [], length, slice_index, slice_index_or}
use Rattle.mac_parameters.specs.Distances.{distance}
use Rattle.tap_lines.specs.TapLines.{TapLine, no_line}
use Rattle.segment_engine.specs.declared.apart.Watch.{Watch}
use Rattle.segment_engine.specs.RunningStates.{most_behind}
use Rattle.segment_engine.specs.StationsApart.{most_told}

-- The delay of tap r's line, where the first n taps are stations', a window has L half bits, and these are the delays
-- of all ports (profile).
abbrev pub new_delay : ℕ → ℕ → List ℕ → List ℕ → ℕ → ℕ
new_delay n L edges delays r = if nat_lt r n then L else slice_index delays (slice_index edges (r - n))

-- A line without symbols, of a tap at a place and with a delay, where a window has L half bits. It keeps what reaches a
-- tap that is so many half bits away, and its last symbol at least. It takes without memory what comes in a window and
-- what is told ahead, where stations stand behind, and that fits a number of 64 bits (profile).
pub record IsNewLine (place wait away L : ℕ) (l : TapLine) : Type 0 where
  pub at_place : l.at ≡ place
  pub with_delay : l.delay ≡ wait
  pub keeps : l.backlog ≡ max 1 (away + wait - L)
  pub from_first : l.base ≡ 0
  pub empty : l.symbols ≡ []
  pub roomy : 2 * l.backlog + 2 * L + most_behind + 2 * most_told ≤ l.room
  pub fits : l.room < 2 ^ 63

-- No two of these places are further from each other than so many half bits (profile).
abbrev pub AreWithin : ℕ → List ℕ → Type 0
AreWithin away places =
    (p r : ℕ) → p < length places → r < length places →
    distance (slice_index places p) (slice_index places r) ≤ away

-- The lines of taps at these places before half bit 0 (profile).
pub record AreNewLines (places : List ℕ) (n L : ℕ) (edges delays : List ℕ) (ls : List TapLine) : Type 0 where
  pub away : ℕ
  pub within : AreWithin away places
  pub count : length ls ≡ length places
  pub each : (r : ℕ) (d : TapLine) → r < length ls →
      IsNewLine (slice_index places r) (new_delay n L edges delays r) away L (slice_index_or ls r d)

-- Nothing stands on these lines yet, which begin with half bit 0 (profile).
pub record AreEmptyLines (ls : List TapLine) : Type 0 where
  pub from_first : (r : ℕ) → r < length ls → (slice_index_or ls r no_line).base ≡ 0
  pub empty : (r : ℕ) → r < length ls → (slice_index_or ls r no_line).symbols ≡ []

-- The watch of a station before half bit 0, which is due in it: its line has Idle for all half bits that a number of 64
-- bits counts (profile).
abbrev pub new_watch : Watch
new_watch = record { since = 0; until = 0; carrier = false; told = 2 ^ 64 - 1 }
