-- The tests that need more than one row (profile).
use Rattle.std.specs.Prelude.{ℕ, ◌+◌, ◌-◌, ◌*◌, Bool, true, false, ◌&&◌, ◌||◌, nat_le, nat_lt, ◌==◌, if◌then◌else◌, List, [], ◌∷◌, ◌++◌, length, bytes_eq, Option, None, Some, option_map}
use Rattle.toml.specs.Data.{Members}
use Rattle.layout_file.specs.declared.fault.Key.{Key}
use Rattle.layout_file.specs.declared.fault.Key.TheVariants as key
use Rattle.layout_file.specs.declared.fault.Table.{Table}
use Rattle.layout_file.specs.declared.fault.Table.TheVariants as table
use Rattle.layout_file.specs.declared.fault.LayoutCode.{LayoutCode}
use Rattle.layout_file.specs.declared.fault.LayoutCode.TheVariants as code
use Rattle.layout_file.specs.declared.fault.LayoutFault.{LayoutFault}
use Rattle.layout_file.specs.declared.rules.Shape.{Shape}
use Rattle.layout_file.specs.declared.rules.Shape.TheVariants as shape
use Rattle.layout.specs.Limits.{most_device_bits, most_segments, most_stations, most_repeaters, most_sends}
use Rattle.mac_parameters.specs.Parameters.{most_ports}
use Rattle.layout_file.specs.RowFaults.{is_among, or_else}
use Rattle.layout_file.specs.Spots.{Spot, fault}
use Rattle.layout_file.specs.Tree.{rows_at, text_at, number_at, names_of}

-- a fault at the n-th row of a table, counted from 1, or 0 for the file's own keys
abbrev pub row_fault : LayoutCode → Table → ℕ → Key → LayoutFault
row_fault c t n k = record { code = c; place = record { table = t; row = n; port = 0; key = k } }

-- a fault at one of the file's keys
abbrev pub file_fault : LayoutCode → Key → LayoutFault
file_fault c k = row_fault c table.File 0 k

-- an array of the file with more than that many rows
abbrev pub crowd_at : Members → Key → ℕ → Option LayoutFault
crowd_at ms k most = if nat_lt most (length (rows_at ms k)) then Some (file_fault code.TooMany k) else None

-- the first repeater with too many ports, counted from n
abbrev pub crowd_of_ports : ℕ → List Members → Option LayoutFault
crowd_of_ports n [] = None
crowd_of_ports n (ms ∷ rows) =
    if nat_lt most_ports (length (rows_at ms key.Port))
    then Some (row_fault code.TooMany table.Repeater n key.Port)
    else crowd_of_ports (n + 1) rows

-- more bits of the run, over all devices, than are run
unfoldable pub crowd_of_bits : Members → Option LayoutFault
crowd_of_bits ms =
    if nat_lt most_device_bits
    (number_at ms key.UntilBits * (length (rows_at ms key.Station) + length (rows_at ms key.Repeater)))
    then Some (file_fault code.TooMany key.UntilBits)
    else None

-- too many rows of a kind, or too many bits
unfoldable pub first_crowd : Members → Option LayoutFault
first_crowd ms =
    or_else (crowd_at ms key.Segment most_segments)
    (or_else (crowd_at ms key.Station most_stations)
    (or_else (crowd_at ms key.Repeater most_repeaters)
    (or_else (crowd_of_ports 1 (rows_at ms key.Repeater))
    (or_else (crowd_at ms key.Send most_sends) (crowd_of_bits ms)))))

-- the first name that stands earlier too, counted from n
abbrev pub first_same : List (List ℕ) → ℕ → List (List ℕ) → Option ℕ
first_same earlier n [] = None
first_same earlier n (x ∷ xs) = if is_among x earlier then Some n else first_same (earlier ++ x ∷ []) (n + 1) xs

-- the name of the n-th segment stands earlier too
abbrev pub same_segment_fault : ℕ → LayoutFault
same_segment_fault n = row_fault code.SameName table.Segment n key.Name

-- the name of the n-th device stands earlier too: the stations are the first devices
abbrev pub same_device_fault : ℕ → ℕ → LayoutFault
same_device_fault stations n =
    if nat_le n stations
    then row_fault code.SameName table.Station n key.Name
    else row_fault code.SameName table.Repeater (n - stations) key.Name

-- a segment has the name of an earlier segment
abbrev pub first_same_segment : List (List ℕ) → Option LayoutFault
first_same_segment segments = option_map same_segment_fault (first_same [] 1 segments)

-- a device has the name of an earlier device
abbrev pub first_same_device : List (List ℕ) → List (List ℕ) → Option LayoutFault
first_same_device stations repeaters =
    option_map (same_device_fault (length stations)) (first_same [] 1 (stations ++ repeaters))

-- a segment has the name of an earlier segment, or a device that of an earlier device
unfoldable pub first_same_name : Members → Option LayoutFault
first_same_name ms =
    or_else (option_map same_segment_fault (first_same [] 1 (names_of (rows_at ms key.Segment))))
    (option_map (same_device_fault (length (names_of (rows_at ms key.Station))))
    (first_same [] 1 (names_of (rows_at ms key.Station) ++ names_of (rows_at ms key.Repeater))))

-- a station and a port have a tap
abbrev pub has_tap : Shape → Bool
has_tap shape.File = false
has_tap shape.Segment = false
has_tap shape.Station = true
has_tap shape.Repeater = false
has_tap shape.Port = true
has_tap shape.Send = false

-- a tap as its row says it: the name of its segment, and its place on it in half bits
pub record NamedTap : Type 0 where
  pub segment : List ℕ
  pub at : ℕ

-- the tap that a row says
abbrev pub named_tap : Members → NamedTap
named_tap ms = record { segment = text_at ms key.Segment; at = number_at ms key.At }

-- the tap of a table that has one
abbrev pub tap_of_spot : Spot → Option NamedTap
tap_of_spot s = if has_tap s.shape then Some (named_tap s.members) else None

-- another tap shares the place of a tap
abbrev pub shares_place : NamedTap → NamedTap → Bool
shares_place tap other = (other.at == tap.at) && bytes_eq other.segment tap.segment

-- the table's tap stands where that segment and place say
abbrev pub is_tap_at : List ℕ → ℕ → Spot → Bool
is_tap_at segment at s =
    has_tap s.shape && bytes_eq (text_at s.members key.Segment) segment && (number_at s.members key.At == at)

-- one of the tables has its tap there
abbrev pub is_taken : List ℕ → ℕ → List Spot → Bool
is_taken segment at [] = false
is_taken segment at (s ∷ ss) = is_tap_at segment at s || is_taken segment at ss

-- the table's tap stands where an earlier one does
abbrev pub takes_tap : List Spot → Spot → Bool
takes_tap earlier s = has_tap s.shape && is_taken (text_at s.members key.Segment) (number_at s.members key.At) earlier

-- the first tap that stands where an earlier one does
abbrev pub first_taken : List Spot → List Spot → Option LayoutFault
first_taken earlier [] = None
first_taken earlier (s ∷ ss) =
    if takes_tap earlier s then Some (fault code.TapTaken s key.At) else first_taken (earlier ++ s ∷ []) ss
