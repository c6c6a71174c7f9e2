-- Lines of a log that name what a layout lacks (profile). Stations and repeaters have numbers from 0, ports and lines
-- from 1.
use Rattle.std.specs.Prelude.{ℕ, ◌+◌, nat_le, ◌&&◌, Bool, true, false, if◌then◌else◌, List, [], ◌∷◌, length, Option, None, Some, slice_get}
use Rattle.std.specs.List.{position_from}
use Rattle.std.specs.Str.{bytes_eq}
use Rattle.collision_log.specs.declared.row.Body.{Body}
use Rattle.collision_log.specs.declared.row.Body.TheVariants.{Closed, Opened, Halted}
use Rattle.layout.specs.declared.lines.Layout.{Layout}
use Rattle.layout.specs.declared.lines.RepeaterLine.{RepeaterLine}
use Rattle.layout.specs.declared.lines.StationLine.{StationLine}
use Rattle.log_meter.specs.declared.line.LogLine.{LogLine}

-- the first of these stations with this name
abbrev pub number_of_station : List StationLine → List ℕ → Option ℕ
number_of_station stations name = position_from (λ s. bytes_eq s.name name) 0 stations

-- the first of these repeaters with this name
abbrev pub number_of_repeater : List RepeaterLine → List ℕ → Option ℕ
number_of_repeater repeaters name = position_from (λ r. bytes_eq r.name name) 0 repeaters

-- whether one of so many ports has this number
abbrev pub is_port_number : ℕ → ℕ → Bool
is_port_number ports port = nat_le 1 port && nat_le port ports

-- whether a repeater with so many ports has the port that what happened names, if it names one
abbrev pub has_port : ℕ → Body → Bool
has_port ports (Closed port) = is_port_number ports port
has_port ports (Opened port) = is_port_number ports port
has_port ports (Halted port) = is_port_number ports port
has_port ports _ = true

-- whether something was found
abbrev pub is_found : Option ℕ → Bool
is_found None = false
is_found (Some k) = true

-- whether this repeater has the port
abbrev pub has_port_of : Option RepeaterLine → Body → Bool
has_port_of None body = false
has_port_of (Some repeater) body = has_port (length repeater.ports) body

-- whether the repeater with the number that was found has the port
abbrev pub has_port_at : List RepeaterLine → Option ℕ → Body → Bool
has_port_at repeaters None body = false
has_port_at repeaters (Some r) body = has_port_of (slice_get repeaters r) body

-- whether the layout has the device that a line names, of its kind, and its port
abbrev pub is_known : Layout → LogLine → Bool
is_known l line =
    if line.repeater then has_port_at l.repeaters (number_of_repeater l.repeaters line.name) line.body
    else is_found (number_of_station l.stations line.name)

-- the first of these lines that names what the layout lacks, where the first of them is line n
abbrev pub stranger_from : Layout → ℕ → List LogLine → Option ℕ
stranger_from l n [] = None
stranger_from l n (line ∷ lines) = if is_known l line then stranger_from l (n + 1) lines else Some n

-- the first line that names a device which the layout lacks or has as the other kind, or a port that the repeater lacks
abbrev pub first_stranger : Layout → List LogLine → Option ℕ
first_stranger l lines = stranger_from l 1 lines
