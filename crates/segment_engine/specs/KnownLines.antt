-- What the lines of a segment say of the half bits below one (profile). Half bits, stations, edges and taps count
-- from 0.
use Rattle.std.specs.Prelude.{ℕ, ◌≡◌, ◌+◌, ◌-◌, ◌<◌, ◌≤◌, List, map, length, slice_index_or}
use Rattle.mac_parameters.specs.Distances.{distance}
use Rattle.manchester_line.specs.Line.{is_signal}
use Rattle.load_plan.specs.declared.plan.Plan.{Plan}
use Rattle.network.specs.Times.{emitted}
use Rattle.net_parts.specs.SegmentParts.{Wiring}
use Rattle.net_parts.specs.Standing.{arrives}
use Rattle.tap_lines.specs.TapLines.{TapLine, no_line, symbol_on, class_on}

-- The lines of a segment in half bit t say what each station emitted below it, and what comes in for each port below
-- `front`; and below these half bits none of them goes on with a signal in the place of Idle, or with Idle in the place
-- of a signal (profile).
pub record KnowLines (plan : Plan) (w : Wiring) (L t front : ℕ) (ls : List TapLine) : Type 0 where
  pub many : length ls ≡ length w.stations + length w.edges
  pub places : map (λ l. l.at) ls ≡ w.positions
  pub no_delays : (r : ℕ) → r < length w.stations → (slice_index_or ls r no_line).delay ≡ L
  pub delays : (p : ℕ) → p < length w.edges →
      (slice_index_or ls (length w.stations + p) no_line).delay ≡ slice_index_or w.delays p 0
  pub begins : (r : ℕ) → r < length ls →
      (slice_index_or ls r no_line).base ≤ t - (slice_index_or ls r no_line).backlog
  pub near : (p r : ℕ) → p < length w.positions → r < length ls →
      distance (slice_index_or w.positions p 0) (slice_index_or w.positions r 0)
      + (slice_index_or ls r no_line).delay - L
      ≤ (slice_index_or ls r no_line).backlog
  pub emissions : (r u : ℕ) → r < length w.stations → (slice_index_or ls r no_line).base ≤ u → u < t →
      symbol_on (slice_index_or ls r no_line) u ≡ emitted plan (slice_index_or w.stations r 0) u
  pub arrivals : (p u : ℕ) → p < length w.edges → (slice_index_or ls (length w.stations + p) no_line).base ≤ u →
      u < front →
      symbol_on (slice_index_or ls (length w.stations + p) no_line) u ≡ arrives plan L (slice_index_or w.edges p 0) u
  pub classes : (r u : ℕ) → r < length w.stations → u < t →
      class_on (slice_index_or ls r no_line) u ≡ is_signal (symbol_on (slice_index_or ls r no_line) u)
  pub port_classes : (p u : ℕ) → p < length w.edges → u < front →
      class_on (slice_index_or ls (length w.stations + p) no_line) u
      ≡ is_signal (symbol_on (slice_index_or ls (length w.stations + p) no_line) u)
