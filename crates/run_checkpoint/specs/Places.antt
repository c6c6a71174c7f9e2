-- Devices and ports by their names (profile). Devices and places count from 0, the stations before the repeaters; ports
-- count from 1.
use Rattle.std.specs.Prelude.{ℕ, ◌+◌, List, [], ◌∷◌, map, flat_map, length, Option, None, Some, if◌then◌else◌}
use Rattle.std.specs.List.{range_with_len}
use Rattle.std.specs.Str.{bytes_eq}
use Rattle.layout.specs.declared.lines.Layout.{Layout}
use Rattle.layout.specs.declared.lines.RepeaterLine.{RepeaterLine}
use Rattle.log_meter.specs.declared.line.LogLine.{LogLine}

-- the first place at which the name stands, where the names have the places from k on
abbrev pub device_from : ℕ → List ℕ → List (List ℕ) → Option ℕ
device_from k name [] = None
device_from k name (n ∷ ns) = if bytes_eq n name then Some k else device_from (k + 1) name ns

-- the device of a log's line: a station or a repeater of the line's name
unfoldable pub device_of_line : Layout → LogLine → Option ℕ
device_of_line layout l =
    if l.repeater then device_from (length layout.stations) l.name (map (λ r. r.name) layout.repeaters)
    else device_from 0 l.name (map (λ s. s.name) layout.stations)

-- a port: the name of its repeater, and its number
pub record NamedPort : Type 0 where
  pub name : List ℕ
  pub port : ℕ

-- so many ports of a repeater
abbrev pub ports_named : List ℕ → ℕ → List NamedPort
ports_named name count = map (λ p. record { name = name; port = p + 1 }) (range_with_len 0 count)

-- the ports of these repeaters
abbrev pub ports_of_repeaters : List RepeaterLine → List NamedPort
ports_of_repeaters repeaters = flat_map (λ r. ports_named r.name (length r.ports)) repeaters

-- the ports of a layout, in the order of its repeaters
abbrev pub all_ports : Layout → List NamedPort
all_ports layout = ports_of_repeaters layout.repeaters
