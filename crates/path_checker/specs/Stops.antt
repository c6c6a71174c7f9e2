-- The taps of a layout in the file's order, and those of each segment and of each repeater (profile). Segments,
-- stations, repeaters and their ports count from 0.
use Rattle.std.specs.Prelude.{◌≡◌, ℕ, ◌+◌, ◌==◌, List, [], ◌∷◌, ◌++◌, map, filter, length, slice_get, unwrap_or}
use Rattle.layout.specs.declared.lines.Layout.{Layout}
use Rattle.layout.specs.declared.lines.PortLine.{PortLine}
use Rattle.layout.specs.declared.lines.RepeaterLine.{RepeaterLine}
use Rattle.layout.specs.declared.lines.StationLine.{StationLine}
use Rattle.layout.specs.declared.ways.Attachment.{Attachment}
use Rattle.layout.specs.declared.ways.Attachment.TheVariants.{Station, Port}
use Rattle.layout.specs.declared.ways.Way.{Way}
use Rattle.layout.specs.declared.ways.Way.TheVariants as way
use Rattle.layout.specs.Joined.{counted_up}
use Rattle.path_checker.specs.declared.stops.Stop.{Stop}
use Rattle.path_checker.specs.declared.stops.Network.{Network}

-- The tap of station k.
abbrev pub station_stop : ℕ → StationLine → Stop
station_stop k s = record { tap = Station k; segment = s.segment; at = s.at }

-- The tap of port k of repeater r.
abbrev pub port_stop : ℕ → ℕ → PortLine → Stop
port_stop r k p = record { tap = Port r k; segment = p.segment; at = p.at }

-- The taps of these stations, the first of which is station k.
abbrev pub station_stops : ℕ → List StationLine → List Stop
station_stops k [] = []
station_stops k (s ∷ ss) = station_stop k s ∷ station_stops (k + 1) ss

-- The taps of these ports of repeater r, the first of which is port k.
abbrev pub port_stops : ℕ → ℕ → List PortLine → List Stop
port_stops r k [] = []
port_stops r k (p ∷ ps) = port_stop r k p ∷ port_stops r (k + 1) ps

-- The taps of the ports of these repeaters, the first of which is repeater r.
abbrev pub repeater_stops : ℕ → List RepeaterLine → List Stop
repeater_stops r [] = []
repeater_stops r (row ∷ rows) = port_stops r 0 row.ports ++ repeater_stops (r + 1) rows

-- All taps of a layout: those of the stations, then those of the repeaters' ports.
unfoldable pub all_stops : Layout → List Stop
all_stops l = station_stops 0 l.stations ++ repeater_stops 0 l.repeaters

-- Those of these taps that are on segment n.
abbrev pub stops_on : List Stop → ℕ → List Stop
stops_on all n = filter (λ s. s.segment == n) all

-- The taps of each of these repeaters, the first of which is repeater r.
abbrev pub repeater_lists : ℕ → List RepeaterLine → List (List Stop)
repeater_lists r [] = []
repeater_lists r (row ∷ rows) = port_stops r 0 row.ports ∷ repeater_lists (r + 1) rows

-- A network has the taps of each segment and of each repeater of a layout.
pub record IsNetworkOf (l : Layout) (n : Network) : Type 0 where
  pub segments : n.segments ≡ map (stops_on (all_stops l)) (counted_up (length l.segments))
  pub repeaters : n.repeaters ≡ repeater_lists 0 l.repeaters

-- List n of these, counted from 0, and an empty one where there is no list n.
abbrev pub list_at : List (List Stop) → ℕ → List Stop
list_at lists n = unwrap_or (slice_get lists n) []

-- The taps of a port's repeater, and none for a station.
abbrev pub ports_at : Network → Attachment → List Stop
ports_at n (Station k) = []
ports_at n (Port r p) = list_at n.repeaters r

-- The taps to which a step by this way can lead from a tap, and that tap: those of its segment, or of its repeater.
abbrev pub stops_by : Network → Way → Stop → List Stop
stops_by n way.Cable s = list_at n.segments s.segment
stops_by n way.Repeater s = ports_at n s.tap
