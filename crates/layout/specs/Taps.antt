-- Where the taps of a layout stand: each on its segment, at its place in half bits from the cable's end (profile).
use Rattle.std.specs.Prelude.{ℕ, ◌==◌, List, ◌++◌, length, replicate, map, filter, flat_map}
use Rattle.layout.specs.declared.lines.Layout.{Layout}
use Rattle.layout.specs.declared.lines.PortLine.{PortLine}
use Rattle.layout.specs.declared.lines.RepeaterLine.{RepeaterLine}
use Rattle.layout.specs.declared.lines.StationLine.{StationLine}

-- where a station's tap is
abbrev pub tap_of : StationLine → PortLine
tap_of s = record { segment = s.segment; at = s.at }

-- the taps: those of the stations, then those of the ports of each repeater, in the file's order, numbered from 0
abbrev pub taps_of : Layout → List PortLine
taps_of l = map tap_of l.stations ++ flat_map (λ r. r.ports) l.repeaters

-- where those of these taps that are on segment s are on it, in half bits from the cable's end; segments count from 0
abbrev pub positions_on : ℕ → List PortLine → List ℕ
positions_on s taps = map (λ x. x.at) (filter (λ x. x.segment == s) taps)

-- the delay of each port of these repeaters, in half bits
abbrev pub delays_of : List RepeaterLine → List ℕ
delays_of repeaters = flat_map (λ r. replicate (length r.ports) r.delay) repeaters
