-- What a layout file is: a layout, or its first fault (profile).
use Rattle.std.specs.Prelude.{◌≡◌, ℕ, Bool, ◌==◌, nat_lt, if◌then◌else◌, List, [], ◌∷◌, length, Option, None, Some, Result, Ok, Err}
use Rattle.std.specs.Str.{is_utf8}
use Rattle.toml.specs.Data.{Members}
use Rattle.toml.specs.Parse.{parse_document}
use Rattle.layout_file.specs.declared.fault.Key.TheVariants as key
use Rattle.layout_file.specs.declared.fault.LayoutCode.TheVariants as code
use Rattle.layout_file.specs.declared.fault.LayoutFault.{LayoutFault}
use Rattle.layout.specs.declared.lines.Layout.{Layout}
use Rattle.layout_file.specs.declared.rows.RowTest.{RowTest}
use Rattle.layout_file.specs.declared.rows.RowTest.TheVariants as test
use Rattle.layout_file.specs.GraphFaults.{first_graph_fault}
use Rattle.layout_file.specs.JointFaults.{file_fault, first_crowd, first_same_name, first_taken}
use Rattle.layout_file.specs.Lines.{layout_of}
use Rattle.layout_file.specs.RowFaults.{Around, or_else, first_of}
use Rattle.layout_file.specs.Spots.{Spot, spots}
use Rattle.layout_file.specs.Tree.{rows_at, number_at, names_of}

-- what the rows' tests know of the whole document
unfoldable pub around_of : Members → Around
around_of ms = record {
  two = number_at ms key.Format == 2;
  segments = names_of (rows_at ms key.Segment);
  stations = names_of (rows_at ms key.Station);
}

-- what each key by itself holds
abbrev pub key_tests : List RowTest
key_tests = test.UnknownKey ∷ test.Missing ∷ test.WrongType ∷ test.BadName ∷ test.OutOfRange ∷ []

-- what is named
abbrev pub name_tests : List RowTest
name_tests = test.NoSuchSegment ∷ test.NoSuchStation ∷ []

-- what is sent
abbrev pub frame_tests : List RowTest
frame_tests = test.BadFrame ∷ []

-- the first fault of what is named, joined and sent
unfoldable pub first_network_fault : ℕ → Around → List Spot → Option LayoutFault
first_network_fault repeaters around ss =
    or_else (first_of around name_tests ss)
    (or_else (first_taken [] ss)
    (or_else (first_graph_fault repeaters around.segments ss)
    (first_of around frame_tests ss)))

-- the first fault of a document that has these tables
abbrev pub first_fault_in : Around → Members → List Spot → Option LayoutFault
first_fault_in around ms ss =
    or_else (first_of around key_tests ss)
    (or_else (first_crowd ms)
    (or_else (first_same_name ms)
    (first_network_fault (length (rows_at ms key.Repeater)) around ss)))

-- the first fault of a document: for each code all places are tried before the next code
unfoldable pub first_fault : Members → Option LayoutFault
first_fault ms =
    or_else (first_of (around_of ms) key_tests (spots ms))
    (or_else (first_crowd ms)
    (or_else (first_same_name ms)
    (or_else (first_of (around_of ms) name_tests (spots ms))
    (or_else (first_taken [] (spots ms))
    (or_else (first_graph_fault (length (rows_at ms key.Repeater)) (around_of ms).segments (spots ms))
    (first_of (around_of ms) frame_tests (spots ms)))))))

-- the document that the octets are
abbrev pub document : List ℕ → Option Members
document bytes = if is_utf8 bytes then parse_document bytes else None

-- the layout that a document spells, where it has no fault
abbrev pub judged_tree : Members → Option LayoutFault → Result Layout LayoutFault
judged_tree ms None = Ok (layout_of ms)
judged_tree ms (Some f) = Err f

-- the same, where the octets are no document too
abbrev pub judged_document : Option Members → Result Layout LayoutFault
judged_document None = Err (file_fault code.NotToml key.None)
judged_document (Some ms) = judged_tree ms (first_fault ms)

-- the octets of the longest layout file
abbrev pub longest_file : ℕ
longest_file = 1048576

-- more octets than are read
unfoldable pub is_too_long : List ℕ → Bool
is_too_long bytes = nat_lt longest_file (length bytes)

-- the layout that the octets are, or their first fault
unfoldable pub judged : List ℕ → Result Layout LayoutFault
judged bytes = if is_too_long bytes then Err (file_fault code.TooMany key.None) else judged_document (document bytes)

-- an allocation was refused
abbrev pub IsMemory : LayoutFault → Type 0
IsMemory f = f.code ≡ code.OutOfMemory
