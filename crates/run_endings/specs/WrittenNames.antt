-- The names of the files that a form writes, and whether one of them is that of a file that it reads (profile). Names
-- are compared octet by octet.
use Rattle.std.specs.Prelude.{◌≡◌, ℕ, List, [], ◌∷◌, Bool, false, ◌||◌, Option, None, Some, bytes_eq, if◌then◌else◌}
use Rattle.layout.specs.declared.lines.Layout.{Layout}
use Rattle.layout.specs.declared.lines.StationLine.{StationLine}
use Rattle.program_texts.specs.Texts.{name_of_capture, name_of_counters, name_of_log, name_of_state}

-- what a form writes to the store: the files of a run of this prefix, the state of this prefix, or nothing
pub data ToWrite : Type 0 where
  RunOf : (prefix : List ℕ) → ToWrite
  StateOf : (prefix : List ℕ) → ToWrite
  NoFile : ToWrite

-- the names of the captures of stations, in their order
abbrev pub capture_names : List ℕ → List StationLine → List (List ℕ)
capture_names prefix [] = []
capture_names prefix (s ∷ ss) = name_of_capture prefix s.name ∷ capture_names prefix ss

-- the names of the files that a form writes for a network, in the order of writing
abbrev pub names_to_write : ToWrite → Layout → List (List ℕ)
names_to_write (RunOf prefix) network =
    name_of_log prefix ∷ name_of_counters prefix ∷ capture_names prefix network.stations
names_to_write (StateOf prefix) network = name_of_state prefix ∷ []
names_to_write NoFile network = []

-- a load, if there is one, has this name
abbrev pub is_load_named : Option (List ℕ) → List ℕ → Bool
is_load_named None name = false
is_load_named (Some load) name = bytes_eq load name

-- the load of one of these stations has this name
abbrev pub is_name_of_load : List StationLine → List ℕ → Bool
is_name_of_load [] name = false
is_name_of_load (s ∷ ss) name = is_load_named s.load name || is_name_of_load ss name

-- this is the name of the layout or of the load of one of its stations
abbrev pub is_name_of_input : List ℕ → Layout → List ℕ → Bool
is_name_of_input layout network name = bytes_eq layout name || is_name_of_load network.stations name

-- the first of these names that is that of the layout or of a load
abbrev pub first_name_of_input : List ℕ → Layout → List (List ℕ) → Option (List ℕ)
first_name_of_input layout network [] = None
first_name_of_input layout network (name ∷ names) =
    if is_name_of_input layout network name then Some name else first_name_of_input layout network names

-- the first of the files to be written, in the order of writing, that has the name of the layout or of a load
unfoldable pub first_taken_name : List ℕ → ToWrite → Layout → Option (List ℕ)
first_taken_name layout outputs network = first_name_of_input layout network (names_to_write outputs network)

-- none of the files to be written has the name of the layout or of a load
abbrev pub AreNamesFree : List ℕ → ToWrite → Layout → Type 0
AreNamesFree layout outputs network = first_taken_name layout outputs network ≡ None
