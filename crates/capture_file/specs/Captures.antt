-- A capture: the records and the first fault of a list of octets (the pcap form, version 2.4; the limits are profile).
-- Places are counted in octets from 0, and records from 1.
use Rattle.std.specs.Prelude.{ℕ, zero, suc, ◌+◌, ◌*◌, ◌==◌, ◌&&◌, Bool, nat_lt, nat_le, if◌then◌else◌, List, [], ◌∷◌, length, take, drop, Option, None, Some, Result, Ok, Err}
use Rattle.byteorder.specs.Endian.{big_number, little_number}
use Rattle.capture_file.specs.declared.entries.Record.{Record}
use Rattle.capture_file.specs.declared.fault.CaptureFault.{CaptureFault}
use Rattle.capture_file.specs.declared.fault.CaptureFault.TheVariants.{Short, Magic, Version, LinkType, Length, CutRecord, TooLarge}
use Rattle.capture_file.specs.declared.form.Form.{Form}
use Rattle.capture_file.specs.declared.form.Order.{Order}
use Rattle.capture_file.specs.declared.form.Order.TheVariants.{Little, Big}
use Rattle.capture_file.specs.declared.form.Fraction.{Fraction}
use Rattle.capture_file.specs.declared.form.Fraction.TheVariants.{Microseconds, Nanoseconds}

-- the number in the first n octets
unfoldable pub number : Order → ℕ → List ℕ → ℕ
number Little n octets = little_number n octets
number Big n octets = big_number n octets

-- the number in n octets from a place on
abbrev pub field : Order → ℕ → ℕ → List ℕ → ℕ
field order n place octets = number order n (drop place octets)

-- the form that a capture says by the number in its first four octets, the first of which is the highest here
unfoldable pub form_by : ℕ → Option Form
form_by magic =
    if magic == 0xd4c3b2a1 then Some (record { order = Little; fraction = Microseconds }) else
    if magic == 0xa1b2c3d4 then Some (record { order = Big; fraction = Microseconds }) else
    if magic == 0x4d3cb2a1 then Some (record { order = Little; fraction = Nanoseconds }) else
    if magic == 0xa1b23c4d then Some (record { order = Big; fraction = Nanoseconds }) else None

-- the form of a capture that begins with these octets
abbrev pub form_of : List ℕ → Option Form
form_of octets = form_by (number Big 4 octets)

-- the version is 2.4
abbrev pub has_version : Form → List ℕ → Bool
has_version form octets = (field form.order 2 4 octets == 2) && (field form.order 2 6 octets == 4)

-- the frames are those of Ethernet; zone, accuracy and greatest length are read over
abbrev pub is_ethernet : Form → List ℕ → Bool
is_ethernet form octets = field form.order 4 20 octets == 1

-- the form, or the header's first fault, where these octets begin with a header of 24
abbrev pub judged_form : Option Form → List ℕ → Result Form CaptureFault
judged_form None octets = Err Magic
judged_form (Some form) octets =
    if has_version form octets then (if is_ethernet form octets then Ok form else Err LinkType) else Err Version

-- what a header of 24 octets says, or its first fault
unfoldable pub header : List ℕ → Result Form CaptureFault
header octets = judged_form (form_of octets) octets

-- how many octets the record in front says that it has, without its header of 16
abbrev pub captured_length : Form → List ℕ → ℕ
captured_length form octets = field form.order 4 8 octets

-- a whole record stands in front
unfoldable pub is_whole : Form → List ℕ → Bool
is_whole form octets =
    nat_le 16 (length octets) && nat_le (captured_length form octets) 262144
    && nat_le (16 + captured_length form octets) (length octets)

-- a record's header stands in front that says that it has too many octets
unfoldable pub is_overlong : Form → List ℕ → Bool
is_overlong form octets = nat_le 16 (length octets) && nat_lt 262144 (captured_length form octets)

-- how many nanoseconds a fraction's unit has
abbrev pub unit : Fraction → ℕ
unit Microseconds = 1000
unit Nanoseconds = 1

-- the time of the record in front, in nanoseconds; a fraction of a second or more is taken as it stands
abbrev pub nanos_at : Form → List ℕ → ℕ
nanos_at form octets = field form.order 4 0 octets * 1000000000 + field form.order 4 4 octets * unit form.fraction

-- the record in front, where it is whole
abbrev pub record_at : Form → List ℕ → Record
record_at form octets = record {
  nanos = nanos_at form octets;
  original = field form.order 4 12 octets;
  octets = take (captured_length form octets) (drop 16 octets);
}

-- the whole records, one after the other, once so many octets are passed over
abbrev pub records_in : Form → ℕ → List ℕ → List Record
records_in form passed [] = []
records_in form (suc passed) (x ∷ xs) = records_in form passed xs
records_in form zero (x ∷ xs) =
    if is_whole form (x ∷ xs) then record_at form (x ∷ xs) ∷ records_in form (15 + captured_length form (x ∷ xs)) xs
    else []

-- the octets after the last of them
abbrev pub rest_in : Form → ℕ → List ℕ → List ℕ
rest_in form passed [] = []
rest_in form (suc passed) (x ∷ xs) = rest_in form passed xs
rest_in form zero (x ∷ xs) =
    if is_whole form (x ∷ xs) then rest_in form (15 + captured_length form (x ∷ xs)) xs else x ∷ xs

-- what is wrong with the record of this number, where so many octets are left for it and it isn't whole
abbrev pub rest_fault : Form → ℕ → List ℕ → Option CaptureFault
rest_fault form number [] = None
rest_fault form number (x ∷ xs) = if is_overlong form (x ∷ xs) then Some (Length number) else Some (CutRecord number)

-- the first fault where the header says this and these octets come after it
abbrev pub fault_after : Result Form CaptureFault → List ℕ → Option CaptureFault
fault_after (Err fault) octets = Some fault
fault_after (Ok form) octets = rest_fault form (length (records_in form 0 octets) + 1) (rest_in form 0 octets)

-- the whole records where the header says this and these octets come after it
abbrev pub records_after : Result Form CaptureFault → List ℕ → List Record
records_after (Err fault) octets = []
records_after (Ok form) octets = records_in form 0 octets

-- the octets after the last whole record, and none where they begin a record that has too many
abbrev pub unless_long : Form → List ℕ → List ℕ
unless_long form rest = if is_overlong form rest then [] else rest

-- the octets that are left where the header says this and these octets come after it
abbrev pub rest_after : Result Form CaptureFault → List ℕ → List ℕ
rest_after (Err fault) octets = []
rest_after (Ok form) octets = unless_long form (rest_in form 0 octets)

-- more octets than a capture may have
unfoldable pub is_too_large : ℕ → Bool
is_too_large octets = nat_lt 67108864 octets

-- the first fault of a capture
unfoldable pub capture_fault : List ℕ → Option CaptureFault
capture_fault octets =
    if is_too_large (length octets) then Some TooLarge else
    if nat_lt (length octets) 24 then Some Short else
    fault_after (header octets) (drop 24 octets)

-- the records of a capture that has no fault
unfoldable pub records : List ℕ → List Record
records octets = records_after (header octets) (drop 24 octets)

-- the octets after the header and the last whole record: all of them before the header is whole, and none
-- where a fault stands that no further octets can mend
unfoldable pub rest_of : List ℕ → List ℕ
rest_of octets =
    if is_too_large (length octets) then [] else
    if nat_lt (length octets) 24 then octets else
    rest_after (header octets) (drop 24 octets)
