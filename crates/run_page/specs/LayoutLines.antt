-- The lines of a page that tell which half bits it shows, of how long a run, and of which layout (profile). Half bits,
-- segments, stations and repeaters count from 0, ports from 1. Places and delays are half bits.
use Rattle.std.specs.Prelude.{ℕ, ◌+◌, ◌*◌, List, [], ◌∷◌, ◌++◌, flat_map, slice_get, option_map, unwrap_or, codes, decimal}
use Rattle.layout.specs.declared.lines.Layout.{Layout}
use Rattle.layout.specs.declared.lines.PortLine.{PortLine}
use Rattle.layout.specs.declared.lines.RepeaterLine.{RepeaterLine}
use Rattle.layout.specs.declared.lines.SegmentLine.{SegmentLine}
use Rattle.layout.specs.declared.lines.StationLine.{StationLine}
use Rattle.mac_parameters.specs.Parameters.{half_bits_a_bit}

-- The line of the half bits that a page shows, from `from` to below `to`.
unfoldable pub window_line : ℕ → ℕ → List ℕ
window_line from to = codes "window " ++ decimal from ++ codes " " ++ decimal to ++ codes "\n"

-- The line of the half bits of the whole run, two for each bit of its length.
unfoldable pub run_line : Layout → List ℕ
run_line l = codes "run " ++ decimal (half_bits_a_bit * l.until_bits) ++ codes "\n"

-- The line of a segment.
unfoldable pub segment_line : SegmentLine → List ℕ
segment_line s = codes "segment " ++ s.name ++ codes "\n"

-- The name of the segment with this number, or no octets where there is none.
abbrev pub segment_name : Layout → ℕ → List ℕ
segment_name l k = unwrap_or (option_map (λ s. s.name) (slice_get l.segments k)) []

-- Where a tap stands: its segment's name, and its place on the segment.
unfoldable pub place_words : Layout → ℕ → ℕ → List ℕ
place_words l segment at = segment_name l segment ++ codes " " ++ decimal at

-- The line of a station.
unfoldable pub station_line : Layout → StationLine → List ℕ
station_line l s = codes "station " ++ s.name ++ codes " " ++ place_words l s.segment s.at ++ codes "\n"

-- The line of the port with this number, from 1, of the repeater with this name.
unfoldable pub port_line : Layout → List ℕ → ℕ → PortLine → List ℕ
port_line l name number port =
    codes "port " ++ name ++ codes " " ++ decimal number ++ codes " " ++ place_words l port.segment port.at
    ++ codes "\n"

-- The lines of these ports of a repeater, the first of which has this number, from 1.
abbrev pub port_lines : Layout → List ℕ → ℕ → List PortLine → List ℕ
port_lines l name number [] = []
port_lines l name number (port ∷ ports) = port_line l name number port ++ port_lines l name (number + 1) ports

-- The line of a repeater with its delay.
unfoldable pub repeater_line : RepeaterLine → List ℕ
repeater_line r = codes "repeater " ++ r.name ++ codes " " ++ decimal r.delay ++ codes "\n"

-- The line of a repeater, and then those of its ports.
abbrev pub repeater_with_ports : Layout → RepeaterLine → List ℕ
repeater_with_ports l r = repeater_line r ++ port_lines l r.name 1 r.ports

-- The lines of a layout: its segments, then its stations, then its repeaters, in the layout's order.
abbrev pub layout_lines : Layout → List ℕ
layout_lines l =
    flat_map segment_line l.segments ++ flat_map (station_line l) l.stations
    ++ flat_map (repeater_with_ports l) l.repeaters
