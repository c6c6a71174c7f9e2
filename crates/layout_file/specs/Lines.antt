-- What the values of a document spell (profile).
use Rattle.std.specs.Prelude.{ℕ, ◌+◌, if◌then◌else◌, List, [], ◌∷◌, map, bytes_eq, Option, None, Some, unwrap_or, option_and_then}
use Rattle.toml.specs.Data.{Members, as_str}
use Rattle.layout_file.specs.declared.fault.Key.TheVariants as key
use Rattle.layout.specs.declared.lines.Layout.{Layout}
use Rattle.layout.specs.declared.lines.SegmentLine.{SegmentLine}
use Rattle.layout.specs.declared.lines.StationLine.{StationLine}
use Rattle.layout.specs.declared.lines.RepeaterLine.{RepeaterLine}
use Rattle.layout.specs.declared.lines.PortLine.{PortLine}
use Rattle.layout.specs.declared.lines.SendLine.{SendLine}
use Rattle.layout_file.specs.TextValues.{octets_of_digits}
use Rattle.layout_file.specs.Tree.{held, rows_at, text_at, number_at, names_of}

-- the place of the first of these names that is x, counted from n
abbrev pub place_from : ℕ → List (List ℕ) → List ℕ → Option ℕ
place_from n [] x = None
place_from n (y ∷ ys) x = if bytes_eq y x then Some n else place_from (n + 1) ys x

-- the number of the first of these names that is x, from 0, and 0 where there is none
abbrev pub place_of : List (List ℕ) → List ℕ → ℕ
place_of names x = unwrap_or (place_from 0 names x) 0

-- a segment
abbrev pub segment_of : Members → SegmentLine
segment_of ms = record { name = text_at ms key.Name }

-- a station, where the segments have these names
unfoldable pub station_of : List (List ℕ) → Members → StationLine
station_of segments ms = record {
  name = text_at ms key.Name;
  segment = place_of segments (text_at ms key.Segment);
  at = number_at ms key.At;
  load = option_and_then as_str (held ms key.Load);
  lose = number_at ms key.LoseBits;
}

-- a port, where the segments have these names
unfoldable pub port_of : List (List ℕ) → Members → PortLine
port_of segments ms = record { segment = place_of segments (text_at ms key.Segment); at = number_at ms key.At }

-- a repeater, where the segments have these names
unfoldable pub repeater_of : List (List ℕ) → Members → RepeaterLine
repeater_of segments ms = record {
  name = text_at ms key.Name;
  delay = number_at ms key.Delay;
  ports = map (port_of segments) (rows_at ms key.Port);
}

-- a send, where the stations have these names
unfoldable pub send_of : List (List ℕ) → Members → SendLine
send_of stations ms = record {
  station = place_of stations (text_at ms key.Station);
  at = number_at ms key.At;
  octets = octets_of_digits (text_at ms key.Octets);
}

-- the layout that a document spells, where the segments and the stations have these names
abbrev pub layout_by : List (List ℕ) → List (List ℕ) → Members → Layout
layout_by segments stations ms = record {
  format = number_at ms key.Format;
  seed = number_at ms key.Seed;
  until_bits = number_at ms key.UntilBits;
  segments = map segment_of (rows_at ms key.Segment);
  stations = map (station_of segments) (rows_at ms key.Station);
  repeaters = map (repeater_of segments) (rows_at ms key.Repeater);
  sends = map (send_of stations) (rows_at ms key.Send);
}

-- the layout that a document spells
unfoldable pub layout_of : Members → Layout
layout_of ms = record {
  format = number_at ms key.Format;
  seed = number_at ms key.Seed;
  until_bits = number_at ms key.UntilBits;
  segments = map segment_of (rows_at ms key.Segment);
  stations = map (station_of (names_of (rows_at ms key.Segment))) (rows_at ms key.Station);
  repeaters = map (repeater_of (names_of (rows_at ms key.Segment))) (rows_at ms key.Repeater);
  sends = map (send_of (names_of (rows_at ms key.Station))) (rows_at ms key.Send);
}
