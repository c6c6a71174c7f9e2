-- The tests that look at one row alone, and the first row at which one fails (profile).
use Rattle.std.specs.Prelude.{ℕ, Bool, true, false, not, ◌&&◌, ◌||◌, nat_le, if◌then◌else◌, List, [], ◌∷◌, length, bytes_eq, Option, None, Some, is_some, option_map}
use Rattle.toml.specs.Data.{Data, string, integer, array, Members}
use Rattle.layout_file.specs.declared.fault.Key.{Key}
use Rattle.layout_file.specs.declared.fault.Key.TheVariants as key
use Rattle.layout_file.specs.declared.fault.LayoutCode.{LayoutCode}
use Rattle.layout_file.specs.declared.fault.LayoutCode.TheVariants as code
use Rattle.layout_file.specs.declared.fault.LayoutFault.{LayoutFault}
use Rattle.layout_file.specs.declared.rows.RowTest.{RowTest}
use Rattle.layout_file.specs.declared.rows.RowTest.TheVariants as test
use Rattle.layout_file.specs.declared.rules.ValueKind.{ValueKind}
use Rattle.layout_file.specs.declared.rules.ValueKind.TheVariants as kind
use Rattle.layout_file.specs.declared.rules.Rule.{Rule}
use Rattle.layout_file.specs.Rules.{rules_of}
use Rattle.layout_file.specs.Spots.{Spot, fault}
use Rattle.layout_file.specs.TextValues.{is_name, is_load, is_frame}
use Rattle.layout.specs.NameOctets.{is_between}
use Rattle.layout_file.specs.Tree.{held, tables, natural, has_stranger}

-- what a row's tests know of the whole document: whether its format is 2, and the names of its segments and stations
pub record Around : Type 0 where
  pub two : Bool
  pub segments : List (List ℕ)
  pub stations : List (List ℕ)

-- the code of a test
abbrev pub code_of_test : RowTest → LayoutCode
code_of_test test.UnknownKey = code.UnknownKey
code_of_test test.Missing = code.Missing
code_of_test test.WrongType = code.WrongType
code_of_test test.BadName = code.BadName
code_of_test test.OutOfRange = code.OutOfRange
code_of_test test.NoSuchSegment = code.NoSuchSegment
code_of_test test.NoSuchStation = code.NoSuchStation
code_of_test test.BadFrame = code.BadFrame

-- one of these names is x
abbrev pub is_among : List ℕ → List (List ℕ) → Bool
is_among x [] = false
is_among x (y ∷ ys) = bytes_eq y x || is_among x ys

-- the value is of the type that its key asks for
abbrev pub is_of_kind : ValueKind → Data → Bool
is_of_kind (kind.Whole least most) (integer z) = true
is_of_kind kind.Name (string s) = true
is_of_kind kind.Load (string s) = true
is_of_kind kind.SegmentName (string s) = true
is_of_kind kind.StationName (string s) = true
is_of_kind (kind.Frame most) (string s) = true
is_of_kind (kind.Rows least) (array ds) = is_some (tables ds)
is_of_kind k d = false

-- a name is a name, and a load keeps its rule
abbrev pub is_well_named : ValueKind → Data → Bool
is_well_named kind.Name (string s) = is_name s
is_well_named kind.Load (string s) = is_load s
is_well_named k d = true

-- a number that stands there is between these bounds
abbrev pub is_within : ℕ → ℕ → Option ℕ → Bool
is_within least most None = false
is_within least most (Some n) = is_between least most n

-- an array that lists something else than tables has no rows to count
abbrev pub is_enough : ℕ → Option ℕ → Bool
is_enough least None = true
is_enough least (Some n) = nat_le least n

-- a number is within its bounds, and an array has rows enough
abbrev pub is_in_range : ValueKind → Data → Bool
is_in_range (kind.Whole least most) (integer z) = is_within least most (natural (integer z))
is_in_range (kind.Rows least) (array ds) = is_enough least (option_map length (tables ds))
is_in_range k d = true

-- a text that names a segment names one of these
abbrev pub names_segment : List (List ℕ) → ValueKind → Data → Bool
names_segment segments kind.SegmentName (string s) = is_among s segments
names_segment segments k d = true

-- a text that names a station names one of these
abbrev pub names_station : List (List ℕ) → ValueKind → Data → Bool
names_station stations kind.StationName (string s) = is_among s stations
names_station stations k d = true

-- a send's octets are digits of octets enough and not too many
abbrev pub is_well_framed : ValueKind → Data → Bool
is_well_framed (kind.Frame most) (string s) = is_frame most s
is_well_framed k d = true

-- the value passes the test
abbrev pub passes : Around → RowTest → ValueKind → Data → Bool
passes around test.UnknownKey k d = true
passes around test.Missing k d = true
passes around test.WrongType k d = is_of_kind k d
passes around test.BadName k d = is_well_named k d
passes around test.OutOfRange k d = is_in_range k d
passes around test.NoSuchSegment k d = names_segment around.segments k d
passes around test.NoSuchStation k d = names_station around.stations k d
passes around test.BadFrame k d = is_well_framed k d

-- the test that an absent key fails
abbrev pub is_missing : RowTest → Bool
is_missing test.UnknownKey = false
is_missing test.Missing = true
is_missing test.WrongType = false
is_missing test.BadName = false
is_missing test.OutOfRange = false
is_missing test.NoSuchSegment = false
is_missing test.NoSuchStation = false
is_missing test.BadFrame = false

-- the test that a key without a rule fails
abbrev pub is_unknown_key : RowTest → Bool
is_unknown_key test.UnknownKey = true
is_unknown_key test.Missing = false
is_unknown_key test.WrongType = false
is_unknown_key test.BadName = false
is_unknown_key test.OutOfRange = false
is_unknown_key test.NoSuchSegment = false
is_unknown_key test.NoSuchStation = false
is_unknown_key test.BadFrame = false

-- the rule fails the test by what the table holds at its key
abbrev pub fails : Around → RowTest → Rule → Option Data → Bool
fails around t rule None = is_missing t && rule.required
fails around t rule (Some d) = not (passes around t rule.kind d)

-- the key of the first rule that fails the test
abbrev pub failing_key : Around → RowTest → List Rule → Members → Option Key
failing_key around t [] ms = None
failing_key around t (rule ∷ rules) ms =
    if fails around t rule (held ms rule.key) then Some rule.key else failing_key around t rules ms

-- the first key of a table that fails the test, or no key for one that has no rule
abbrev pub faulty_key : Around → RowTest → List Rule → Members → Option Key
faulty_key around t rules ms =
    if is_unknown_key t
    then (if has_stranger rules ms then Some key.None else None)
    else failing_key around t rules ms

-- the first fault of a test at one table
unfoldable pub fault_at : Around → RowTest → Spot → Option LayoutFault
fault_at around t s =
    option_map (fault (code_of_test t) s) (faulty_key around t (rules_of around.two s.shape) s.members)

-- the first of the two faults, where there is any
abbrev pub or_else : {T : Type 0} → Option T → Option T → Option T
or_else None b = b
or_else (Some x) b = Some x

-- for one test all tables are tried
abbrev pub first_at : Around → RowTest → List Spot → Option LayoutFault
first_at around t [] = None
first_at around t (s ∷ ss) = or_else (fault_at around t s) (first_at around t ss)

-- before the next test
abbrev pub first_of : Around → List RowTest → List Spot → Option LayoutFault
first_of around [] ss = None
first_of around (t ∷ ts) ss = or_else (first_at around t ss) (first_of around ts ss)
