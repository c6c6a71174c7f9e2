-- A layout with a longer piece of cable or with a slower repeater, and the bounds that its numbers have (profile).
-- Places, delays and lengthenings are half bits; segments and repeaters count from 0.
use Rattle.std.specs.Prelude.{◌≡◌, ℕ, ◌+◌, ◌==◌, ◌&&◌, ◌≤◌, nat_le, if◌then◌else◌, List, [], ◌∷◌, map, Some}
use Rattle.layout.specs.declared.lines.Layout.{Layout}
use Rattle.layout.specs.declared.lines.PortLine.{PortLine}
use Rattle.layout.specs.declared.lines.RepeaterLine.{RepeaterLine}
use Rattle.layout.specs.declared.lines.StationLine.{StationLine}
use Rattle.layout.specs.declared.ways.Attachment.{Attachment}
use Rattle.layout.specs.Paths.{place, delay_of}
use Rattle.mac_parameters.specs.Parameters.{greatest_place, greatest_delay}

-- Where a place of segment n comes to lie when the cable of a segment grows by x just below the place `high`: from
-- `high` on x farther from the cable's end.
abbrev pub moved_place : ℕ → ℕ → ℕ → ℕ → ℕ → ℕ
moved_place segment high x n at = if (n == segment) && nat_le high at then at + x else at

-- A station when the cable of a segment grows.
abbrev pub moved_station : ℕ → ℕ → ℕ → StationLine → StationLine
moved_station segment high x s = record s { at = moved_place segment high x s.segment s.at }

-- A port when the cable of a segment grows.
abbrev pub moved_port : ℕ → ℕ → ℕ → PortLine → PortLine
moved_port segment high x p = record p { at = moved_place segment high x p.segment p.at }

-- A repeater when the cable of a segment grows.
abbrev pub moved_repeater : ℕ → ℕ → ℕ → RepeaterLine → RepeaterLine
moved_repeater segment high x r = record r { ports = map (moved_port segment high x) r.ports }

-- The layout when the cable of a segment grows by x just below the place `high`: all taps of the segment from there on
-- stand x farther from the cable's end, and all else stays.
unfoldable pub lengthened_gap : Layout → ℕ → ℕ → ℕ → Layout
lengthened_gap l segment high x =
    record l {
      stations = map (moved_station segment high x) l.stations;
      repeaters = map (moved_repeater segment high x) l.repeaters;
    }

-- A repeater whose delay has grown by x.
abbrev pub slowed : ℕ → RepeaterLine → RepeaterLine
slowed x r = record r { delay = r.delay + x }

-- These repeaters, the first of which is repeater k, where the delay of repeater n has grown by x.
abbrev pub slowed_from : ℕ → ℕ → ℕ → List RepeaterLine → List RepeaterLine
slowed_from k n x [] = []
slowed_from k n x (r ∷ rs) = (if k == n then slowed x r else r) ∷ slowed_from (k + 1) n x rs

-- The layout when a repeater's delay grows by x, and all else stays.
unfoldable pub lengthened_delay : Layout → ℕ → ℕ → Layout
lengthened_delay l repeater x = record l { repeaters = slowed_from 0 repeater x l.repeaters }

-- Each tap stands at a place that a cable can have, and each repeater has a delay that repeaters can have.
pub record KeepsBounds (l : Layout) : Type 0 where
  pub places : (t : Attachment) (p : PortLine) → place l t ≡ Some p → p.at ≤ greatest_place
  pub delays : (t : Attachment) → delay_of l t ≤ greatest_delay
