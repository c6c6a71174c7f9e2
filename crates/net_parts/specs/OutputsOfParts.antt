-- What the rows and captures of the parts have to do with those of the whole run (profile). Parts, segments,
-- stations, devices and half bits count from 0.
use Rattle.std.specs.Prelude.{ℕ, ◌∷◌, [], ◌++◌, Bool, true, false, List, map, filter, take, slice_index_or}
use Rattle.collision_log.specs.declared.row.Row.{Row}
use Rattle.layout.specs.declared.lines.PortLine.{PortLine}
use Rattle.layout.specs.Taps.{tap_of}
use Rattle.load_plan.specs.declared.plan.Plan.{Plan}
use Rattle.mac_transmit.specs.Sender.{Sender, cut_of}
use Rattle.network.specs.declared.outputs.Taken.{Taken}
use Rattle.network.specs.Outputs.{rows, captures}
use Rattle.network.specs.Rows.{row_of}
use Rattle.network.specs.TapsOnSegments.{count_on}
use Rattle.net_parts.specs.Machines.{span}
use Rattle.net_parts.specs.SegmentParts.{wiring}
use Rattle.net_parts.specs.Standing.{is_one_of}
use Rattle.net_parts.specs.Parts.{PartState, OfSegment, OfRepeater, is_segment_part, device_of, parts}

-- The stations of part u, ascending, where it is a segment or isn't (profile).
abbrev pub stations_of_kind : Plan → Bool → ℕ → List ℕ
stations_of_kind plan true u = (wiring plan.layout u).stations
stations_of_kind plan false u = []

-- The devices of part u, ascending, where it is a segment or isn't (profile).
abbrev pub devices_of_kind : Plan → Bool → ℕ → List ℕ
devices_of_kind plan true u = (wiring plan.layout u).stations
devices_of_kind plan false u = device_of plan u ∷ []

-- The stations of part u, ascending: a repeater has none (profile).
abbrev pub stations_of_part : Plan → ℕ → List ℕ
stations_of_part plan u = stations_of_kind plan (is_segment_part plan u) u

-- The devices of part u, ascending (profile).
abbrev pub devices_of_part : Plan → ℕ → List ℕ
devices_of_part plan u = devices_of_kind plan (is_segment_part plan u) u

-- The rows of part u in the whole run, Cut rows included (profile).
abbrev pub rows_of_part : Plan → ℕ → List Row
rows_of_part plan u = filter (λ row. is_one_of row.device (devices_of_part plan u)) (rows plan)

-- The rows of all parts, in the order of their numbers (profile).
abbrev pub rows_of_parts : Plan → List (List Row)
rows_of_parts plan = map (rows_of_part plan) (span (λ u. u) 0 (parts plan))

-- What the stations of part u captured in the whole run, in their order (profile).
abbrev pub captures_of_part : Plan → ℕ → List (List Taken)
captures_of_part plan u = map (λ k. slice_index_or (captures plan) k []) (stations_of_part plan u)

-- The tap of station k (profile).
abbrev pub tap_of_station : Plan → ℕ → PortLine
tap_of_station plan k = slice_index_or (map tap_of plan.layout.stations) k (record { segment = 0; at = 0 })

-- The place of station k among the stations of its segment, from 0 (profile).
abbrev pub place_of_station : Plan → ℕ → ℕ
place_of_station plan k = count_on (tap_of_station plan k).segment (take k (map tap_of plan.layout.stations))

-- The rows at the end t of a run of the stations of these numbers, with these senders, whose sending is under way
-- (profile).
abbrev pub cut_rows_on : ℕ → List ℕ → List Sender → List Row
cut_rows_on t (k ∷ ks) (s ∷ ss) = row_of t k (cut_of s) ++ cut_rows_on t ks ss
cut_rows_on t _ _ = []

-- The rows that part u hands out when it has made all its windows: those that it has, and the Cut rows (profile).
abbrev pub rows_handed_out : Plan → ℕ → PartState → List Row
rows_handed_out plan u (OfSegment s) = s.rows ++ cut_rows_on s.t (wiring plan.layout u).stations s.senders
rows_handed_out plan u (OfRepeater s) = s.rows

-- The captures that a part hands out, in the order of its stations: a repeater has none (profile).
abbrev pub captures_handed_out : PartState → List (List Taken)
captures_handed_out (OfSegment s) = s.captures
captures_handed_out (OfRepeater s) = []
