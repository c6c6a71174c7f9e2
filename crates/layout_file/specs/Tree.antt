-- What a table of a document holds at a key (profile).
use Rattle.std.specs.Prelude.{ℕ, pos, Bool, not, List, [], ◌∷◌, bytes_eq, Option, None, Some, unwrap_or, option_map, option_and_then}
use Rattle.std.specs.List.{list_any}
use Rattle.toml.specs.Data.{Data, integer, array, Items, no_items, item, Members, no_members, member, get_member, as_str, as_table}
use Rattle.layout_file.specs.declared.fault.Key.{Key}
use Rattle.layout_file.specs.declared.fault.Key.TheVariants as key
use Rattle.layout_file.specs.declared.rules.Rule.{Rule}
use Rattle.layout_file.specs.FaultNames.{name_of_key}

-- the value at a key
abbrev pub held : Members → Key → Option Data
held ms k = get_member (name_of_key k) ms

-- the tables that an array lists, if it lists nothing else
abbrev pub tables : Items → Option (List Members)
tables no_items = Some []
tables (item d ds) = option_and_then (λ ms. option_map (λ rest. ms ∷ rest) (tables ds)) (as_table d)

-- the rows of an array of tables
abbrev pub tables_in : Data → Option (List Members)
tables_in (array ds) = tables ds
tables_in d = None

-- the rows at a key: none where there is no array of tables
abbrev pub rows_at : Members → Key → List Members
rows_at ms k = unwrap_or (option_and_then tables_in (held ms k)) []

-- the text at a key: empty where there is none
abbrev pub text_at : Members → Key → List ℕ
text_at ms k = unwrap_or (option_and_then as_str (held ms k)) []

-- a whole number that is not below 0
abbrev pub natural : Data → Option ℕ
natural (integer (pos n)) = Some n
natural d = None

-- the whole number at a key: 0 where there is none, or one below 0
abbrev pub number_at : Members → Key → ℕ
number_at ms k = unwrap_or (option_and_then natural (held ms k)) 0

-- some rule is for the key of this name
abbrev pub is_listed : List Rule → List ℕ → Bool
is_listed rules name = list_any (λ r. bytes_eq name (name_of_key r.key)) rules

-- the keys of a table
abbrev pub names : Members → List (List ℕ)
names no_members = []
names (member name d ms) = name ∷ names ms

-- some key has no rule
abbrev pub has_stranger : List Rule → Members → Bool
has_stranger rules ms = list_any (λ name. not (is_listed rules name)) (names ms)

-- the names of rows
abbrev pub names_of : List Members → List (List ℕ)
names_of [] = []
names_of (ms ∷ rows) = text_at ms key.Name ∷ names_of rows

-- the names of the rows at a key
abbrev pub names_at : Members → Key → List (List ℕ)
names_at ms k = names_of (rows_at ms k)
