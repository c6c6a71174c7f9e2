-- The parts of a network: its segments with their stations, then its repeaters (profile). All numbers count from 0,
-- and times are in half bits.
use Rattle.std.specs.Prelude.{ℕ, ◌+◌, ◌-◌, nat_lt, Bool, true, false, List, length}
use Rattle.manchester_line.specs.declared.Sym.{Sym}
use Rattle.load_plan.specs.declared.plan.Plan.{Plan}
use Rattle.net_parts.specs.Windows.{lookahead, time, size}
use Rattle.net_parts.specs.Machines.{run_rows, columns, parcels_of}
use Rattle.net_parts.specs.SegmentParts.{wiring, SegmentState, segment_machine}
use Rattle.net_parts.specs.RepeaterParts.{RepeaterState, repeater_machine, edges_at}
use Rattle.net_parts.specs.Standing.{segment_at, repeater_at}

-- The state of a part (profile).
pub data PartState : Type 0 where
  OfSegment : (state : SegmentState) → PartState
  OfRepeater : (state : RepeaterState) → PartState

-- Whether part u is a segment (profile).
abbrev pub is_segment_part : Plan → ℕ → Bool
is_segment_part plan u = nat_lt u (length plan.layout.segments)

-- How many parts there are (profile).
abbrev pub parts : Plan → ℕ
parts plan = length plan.layout.segments + length plan.layout.repeaters

-- Which repeater part u is, where it isn't a segment (profile).
abbrev pub repeater_number : Plan → ℕ → ℕ
repeater_number plan u = u - length plan.layout.segments

-- Which device part u is, where it isn't a segment (profile).
abbrev pub device_of : Plan → ℕ → ℕ
device_of plan u = length plan.layout.stations + repeater_number plan u

-- The edges of part u, ascending, where it is a segment or isn't (profile).
abbrev pub edges_of_kind : Plan → Bool → ℕ → List ℕ
edges_of_kind plan true u = (wiring plan.layout u).edges
edges_of_kind plan false u = edges_at plan.layout (repeater_number plan u)

-- The edges of part u, ascending (profile).
abbrev pub edges_of_part : Plan → ℕ → List ℕ
edges_of_part plan u = edges_of_kind plan (is_segment_part plan u) u

-- Part u before half bit t, where it is a segment or isn't (profile).
abbrev pub part_of_kind : Plan → Bool → ℕ → ℕ → PartState
part_of_kind plan true u t = OfSegment (segment_at plan (lookahead plan.layout) (wiring plan.layout u) t)
part_of_kind plan false u t = OfRepeater (repeater_at plan (repeater_number plan u) t)

-- Part u at window w: it stands in the network at the half bit at which the window begins (profile).
unfoldable pub part_at : Plan → ℕ → ℕ → PartState
part_at plan u w = part_of_kind plan (is_segment_part plan u) u (time plan w)

-- What a part makes of a window: its state after it, and the symbols for its parcels, in order of its edges
-- (profile).
pub record Made : Type 0 where
  pub state : PartState
  pub symbols : List (List Sym)

-- Window w of part u, by its own state and by the symbols that its parcels bring, in order of its edges (profile).
unfoldable pub run_part : Plan → ℕ → ℕ → PartState → List (List Sym) → Made
run_part plan u w (OfSegment s) parcels =
    let m = segment_machine (wiring plan.layout u) (lookahead plan.layout) in
    let r = run_rows m (columns parcels (size plan w)) s in
    record { state = OfSegment r.state; symbols = parcels_of (length (edges_of_kind plan true u)) r.rows }
run_part plan u w (OfRepeater s) parcels =
    let r = run_rows (repeater_machine (device_of plan u)) (columns parcels (size plan w)) s in
    record { state = OfRepeater r.state; symbols = parcels_of (length (edges_of_kind plan false u)) r.rows }
