-- What holds of the parts of every network (profile). Parts, segments, stations, repeaters, edges, taps, windows and
-- half bits count from 0.
use Rattle.std.specs.Prelude.{ℕ, suc, ◌≡◌, ◌≢◌, ◌+◌, ◌<◌, ◌≤◌, List, [], map, length, slice_index, slice_index_or}
use Rattle.collision_log.specs.Merged.{IsLogOrder, KeepsOwnOrder}
use Rattle.layout.specs.declared.lines.Layout.{Layout}
use Rattle.layout.specs.declared.lines.PortLine.{PortLine}
use Rattle.layout.specs.Taps.{taps_of}
use Rattle.load_plan.specs.declared.plan.Plan.{Plan}
use Rattle.mac_parameters.specs.Distances.{distance}
use Rattle.network.specs.Outputs.{rows, captures}
use Rattle.network.specs.Times.{decided, port_delays}
use Rattle.net_parts.specs.Windows.{edge_ports, lookahead, most_lookahead, windows}
use Rattle.net_parts.specs.SegmentParts.{wiring, segment_machine}
use Rattle.net_parts.specs.RepeaterParts.{edges_at, repeater_machine}
use Rattle.net_parts.specs.Standing.{arrives, port_hears, segment_at, repeater_at}
use Rattle.net_parts.specs.Parts.{parts, part_at, run_part}
use Rattle.net_parts.specs.Parcels.{brings, takes}
use Rattle.net_parts.specs.Boards.{Event, opening_board, AreEnabled, board_after, IsTrueBoard}
use Rattle.net_parts.specs.OutputsOfParts.{rows_of_part, rows_of_parts, captures_of_part, tap_of_station, place_of_station, rows_handed_out, captures_handed_out}

-- Nothing that is decided for a port comes to another tap of its segment in fewer half bits than this (profile).
abbrev pub IsLead : Layout → ℕ → Type 0
IsLead l L =
    (e q : ℕ) (d : PortLine) → e < length (edge_ports l) → q < length (taps_of l) → q ≢ length l.stations + e
    → (slice_index_or (taps_of l) q d).segment ≡ (slice_index_or (edge_ports l) e d).segment
    → L ≤ slice_index (port_delays l) e
    + distance (slice_index_or (taps_of l) q d).at (slice_index_or (edge_ports l) e d).at

-- A number of half bits that may be a window's (profile).
pub record IsLookahead (l : Layout) (L : ℕ) : Type 0 where
  pub lead : IsLead l L
  pub some : 1 ≤ L
  pub most : L ≤ most_lookahead

-- The lookahead of a plan's layout may be a window's length (profile).
abbrev pub LookaheadLeads : Type 0
LookaheadLeads = (plan : Plan) → IsLookahead plan.layout (lookahead plan.layout)

-- A segment that stands in the network before half bit t, into which comes what the network decided, stands there
-- before half bit t + 1, and what goes out is what its ports hear (profile).
abbrev pub SegmentsGoOn : Type 0
SegmentsGoOn =
    (plan : Plan) (s t : ℕ) →
    let L = lookahead plan.layout in
    let w = wiring plan.layout s in
    let comes = map (λ e. arrives plan L e t) w.edges in
    ((segment_machine w L).step comes (segment_at plan L w t) ≡ segment_at plan L w (suc t))
    × ((segment_machine w L).gives comes (segment_at plan L w t) ≡ map (λ e. port_hears plan e t) w.edges)

-- A repeater that stands in the network before half bit t, and whose ports hear what the network lets them hear,
-- stands there before half bit t + 1, and what goes out is what the network decides for its ports (profile).
abbrev pub RepeatersGoOn : Type 0
RepeatersGoOn =
    (plan : Plan) (i t : ℕ) → i < length plan.layout.repeaters →
    let m = repeater_machine (length plan.layout.stations + i) in
    let es = edges_at plan.layout i in
    let comes = map (λ e. port_hears plan e t) es in
    (m.step comes (repeater_at plan i t) ≡ repeater_at plan i (suc t))
    × (m.gives comes (repeater_at plan i t) ≡ map (λ e. decided plan e t) es)

-- A part that stands at the time of a window, and whose parcels are true, stands at that of the next one after the
-- window, and what it makes for its parcels is true (profile).
abbrev pub PartsGoOn : Type 0
PartsGoOn =
    (plan : Plan) (u w : ℕ) → u < parts plan → w < windows plan →
    run_part plan u w (part_at plan u w) (brings plan u w)
    ≡ record { state = part_at plan u (w + 1); symbols = takes plan u w }

-- Whatever the order of events from the opening board on, each of which can happen where it stands: no part and no
-- parcel says anything but what the network does (profile).
abbrev pub EverySchedule : Type 0
EverySchedule =
    (plan : Plan) (events : List Event) → AreEnabled plan (opening_board plan) events
    → IsTrueBoard plan (board_after plan (opening_board plan) events)

-- What a part hands out after the last window are its rows of the whole run, Cut rows included, and its captures
-- (profile).
abbrev pub PartsHandOut : Type 0
PartsHandOut =
    (plan : Plan) (u : ℕ) → u < parts plan →
    (rows_handed_out plan u (part_at plan u (windows plan)) ≡ rows_of_part plan u)
    × (captures_handed_out (part_at plan u (windows plan)) ≡ captures_of_part plan u)

-- The rows of a run are a log of its parts' rows (profile).
pub record AreRowsGathered (plan : Plan) : Type 0 where
  pub order : IsLogOrder (rows plan)
  pub own : KeepsOwnOrder (rows_of_parts plan) (rows plan)

-- So they are in every network; and what is merged of lists is their only log (profile).
abbrev pub RowsAreGathered : Type 0
RowsAreGathered = (plan : Plan) → AreRowsGathered plan

-- The captures of a run are those of its stations, each of which is in the captures of its segment, at its place
-- among the segment's stations (profile).
pub record AreCapturesGathered (plan : Plan) : Type 0 where
  pub many : length (captures plan) ≡ length plan.layout.stations
  pub segments : (k : ℕ) → k < length plan.layout.stations →
      (tap_of_station plan k).segment < length plan.layout.segments
  pub each : (k : ℕ) → k < length plan.layout.stations →
      slice_index_or (captures_of_part plan (tap_of_station plan k).segment) (place_of_station plan k) []
      ≡ slice_index_or (captures plan) k []

-- So they are in every network (profile).
abbrev pub CapturesAreGathered : Type 0
CapturesAreGathered = (plan : Plan) → AreCapturesGathered plan
