-- Rows with the octets that came with them, and how the captures of stations are spread over them (profile). Stations
-- count from 0.
use Rattle.std.specs.Prelude.{ℕ, ◌+◌, ◌==◌, ◌&&◌, Bool, true, false, if◌then◌else◌, List, [], ◌∷◌, map, drop, flat_map, slice_get, slice_set, Option, None, Some}
use Rattle.std.specs.List.{range_with_len}
use Rattle.collision_log.specs.declared.row.Body.{Body}
use Rattle.collision_log.specs.declared.row.Body.TheVariants.{Received}
use Rattle.collision_log.specs.declared.row.Row.{Row}
use Rattle.layout.specs.declared.lines.Layout.{Layout}
use Rattle.mac_parameters.specs.Parameters.{check_sequence}
use Rattle.network.specs.declared.outputs.Taken.{Taken}
use Rattle.run_checkpoint.specs.LineTexts.{line_of_octets, line_of_row_kept}

-- a row, and the octets of the frame that was received with it, without its check sequence; none with other rows
pub record StateRow : Type 0 where
  pub row : Row
  pub octets : List ℕ

-- whether a frame was received
abbrev pub is_reception : Body → Bool
is_reception (Received octets) = true
is_reception _ = false

-- the octets of the first of these frames
abbrev pub first_octets : Option (List Taken) → List ℕ
first_octets None = []
first_octets (Some []) = []
first_octets (Some (one ∷ more)) = one.octets

-- these frames without the first
abbrev pub after_first : Option (List Taken) → List Taken
after_first None = []
after_first (Some taken) = drop 1 taken

-- the rows, each Received one with the octets of its station's next frame
abbrev pub entries_of : List Row → List (List Taken) → List StateRow
entries_of [] waiting = []
entries_of (row ∷ rows) waiting =
    if is_reception row.body then
    record { row = row; octets = first_octets (slice_get waiting row.device) }
    ∷ entries_of rows (slice_set waiting row.device (after_first (slice_get waiting row.device)))
    else record { row = row; octets = [] } ∷ entries_of rows waiting

-- what a station received, by its entries
abbrev pub taken_by_station : ℕ → List StateRow → List Taken
taken_by_station k [] = []
taken_by_station k (e ∷ es) =
    if is_reception e.row.body && (e.row.device == k)
    then record { t = e.row.t; octets = e.octets } ∷ taken_by_station k es
    else taken_by_station k es

-- what each of so many stations received, by the entries
abbrev pub captures_of_entries : ℕ → List StateRow → List (List Taken)
captures_of_entries stations es = map (λ k. taken_by_station k es) (range_with_len 0 stations)

-- the rows of entries
abbrev pub rows_of_entries : List StateRow → List Row
rows_of_entries es = map (λ e. e.row) es

-- the lines of a row and of its octets, where there are any
abbrev pub lines_of_entry : Layout → StateRow → List (List ℕ)
lines_of_entry layout e =
    line_of_row_kept layout e.row ∷ (if is_reception e.row.body then line_of_octets e.octets ∷ [] else [])

-- the lines of these entries
abbrev pub lines_of_entries : Layout → List StateRow → List (List ℕ)
lines_of_entries layout es = flat_map (lines_of_entry layout) es

-- whether so many octets, without a check sequence, are those of a frame that was received
abbrev pub is_length_of : Body → ℕ → Bool
is_length_of (Received octets) len = len + check_sequence == octets
is_length_of _ len = len == 0
