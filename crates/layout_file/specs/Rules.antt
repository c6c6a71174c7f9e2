-- The keys that each table may have, in their order (profile).
use Rattle.std.specs.Prelude.{Bool, true, false, List, [], ◌∷◌}
use Rattle.layout_file.specs.declared.fault.Key.{Key}
use Rattle.layout_file.specs.declared.fault.Key.TheVariants as key
use Rattle.layout_file.specs.declared.fault.Table.{Table}
use Rattle.layout_file.specs.declared.fault.Table.TheVariants as table
use Rattle.layout_file.specs.declared.rules.ValueKind.{ValueKind}
use Rattle.layout_file.specs.declared.rules.ValueKind.TheVariants as kind
use Rattle.layout_file.specs.declared.rules.Rule.{Rule}
use Rattle.layout_file.specs.declared.rules.Shape.{Shape}
use Rattle.layout_file.specs.declared.rules.Shape.TheVariants as shape
use Rattle.mac_parameters.specs.Parameters.{greatest_place, most_octets, most_half_bits}
use Rattle.layout.specs.Limits.{greatest_seed, most_bits, most_lost_bits}
use Rattle.mac_parameters.specs.Parameters.{greatest_delay}
use Rattle.mac_parameters.specs.Parameters.{least_delay}
use Rattle.mac_parameters.specs.Parameters.{least_ports}

-- the table that a fault names: a port row is a part of its repeater's row
abbrev pub table_of : Shape → Table
table_of shape.File = table.File
table_of shape.Segment = table.Segment
table_of shape.Station = table.Station
table_of shape.Repeater = table.Repeater
table_of shape.Port = table.Repeater
table_of shape.Send = table.Send

-- a key that has to be there
abbrev pub required : Key → ValueKind → Rule
required k holds = record { key = k; required = true; kind = holds }

-- a key that may be absent
abbrev pub optional : Key → ValueKind → Rule
optional k holds = record { key = k; required = false; kind = holds }

-- the bits that a receiver loses are a key of format 2 alone
abbrev pub lose_rules : Bool → List Rule
lose_rules true = optional key.LoseBits (kind.Whole 0 most_lost_bits) ∷ []
lose_rules false = []

-- the keys of a table in their order; the truth value says that the file's format is 2
abbrev pub rules_of : Bool → Shape → List Rule
rules_of two shape.File =
    required key.Format (kind.Whole 1 2)
    ∷ required key.Seed (kind.Whole 0 greatest_seed)
    ∷ required key.UntilBits (kind.Whole 1 most_bits)
    ∷ required key.Segment (kind.Rows 1)
    ∷ optional key.Station (kind.Rows 0)
    ∷ optional key.Repeater (kind.Rows 0)
    ∷ optional key.Send (kind.Rows 0)
    ∷ []
rules_of two shape.Segment = required key.Name kind.Name ∷ []
rules_of two shape.Station =
    required key.Name kind.Name
    ∷ required key.Segment kind.SegmentName
    ∷ required key.At (kind.Whole 0 greatest_place)
    ∷ optional key.Load kind.Load
    ∷ lose_rules two
rules_of two shape.Repeater =
    required key.Name kind.Name
    ∷ required key.Delay (kind.Whole least_delay greatest_delay)
    ∷ required key.Port (kind.Rows least_ports)
    ∷ []
rules_of two shape.Port = required key.Segment kind.SegmentName ∷ required key.At (kind.Whole 0 greatest_place) ∷ []
rules_of two shape.Send =
    required key.Station kind.StationName
    ∷ required key.At (kind.Whole 0 most_half_bits)
    ∷ required key.Octets (kind.Frame (most_octets two))
    ∷ []
