-- The log of rows of a sound layout is read back as their lines.
use Rattle.std.proofs.Common.{◌≡◌, ℕ, ◌<◌, List, [], ◌∷◌, ◌++◌, map, length, refl, ap, ◌∙◌, arith, inl, inr, All}
use Rattle.std.specs.Prelude.{slice_get, unwrap_or}
use Rattle.std.specs.List.{AllByRecursion}
use Rattle.std.proofs.lemmas.List.Elements.{All-map, All-append}
use Rattle.std.proofs.lemmas.Option.{slice_get_cases}
use Rattle.collision_log.specs.declared.row.Row.{Row}
use Rattle.layout.specs.Sound.{IsName, IsSound, device_names}
use Rattle.layout.specs.declared.lines.Layout.{Layout}
use Rattle.log_meter.specs.Lines.{IsLogLine, entry_text}
use Rattle.log_meter.specs.LoggedRows.{AreLoggable, IsLoggable, logged_line, logged_lines}
use Rattle.log_meter.specs.Logs.{IsLogOf, log_text}
use Rattle.run_texts.specs.Texts.{line_of_row, lines_of_rows, log_of_rows}

-- the names of the devices of a sound layout are names
names : (layout : Layout) → IsSound layout → All IsName (device_names layout)
names layout sound =
    All-append IsName (map (λ s. s.name) layout.stations) (map (λ r. r.name) layout.repeaters)
    (All-map IsName (λ s. s.name) layout.stations (λ k d lt. (sound.stations k d lt).name))
    (All-map IsName (λ r. r.name) layout.repeaters (λ k d lt. (sound.repeaters k d lt).name))

-- one of these names
name_of : (names : List (List ℕ)) (k : ℕ) → All IsName names → k < length names → IsName (unwrap_or (slice_get names k) [])
name_of names k all within =
    elim (slice_get_cases names k).1 [
      | inl (x, lt, is, same) ↦ rw is (rw same at (all k x lt))
      | inr (past, none) ↦ absurd (omega arith)
    ]

-- the line of a row is one of the grammar
row_is_line : (layout : Layout) (row : Row) → IsSound layout → IsLoggable layout row → IsLogLine (logged_line layout row)
row_is_line layout row sound h =
    record { time = h.time; name = name_of (device_names layout) row.device (names layout sound) h.device; device = h.kind; numbers = h.numbers }

rows_are_lines : (layout : Layout) (rows : List Row) → IsSound layout → AllByRecursion (IsLoggable layout) rows → AllByRecursion IsLogLine (logged_lines layout rows)
rows_are_lines layout [] sound all = tt
rows_are_lines layout (row ∷ rows) sound all = (row_is_line layout row sound all.0, rows_are_lines layout rows sound all.1)

-- the log of rows is the text of their lines
text_of_rows : (layout : Layout) (rows : List Row) → lines_of_rows (device_names layout) (length layout.stations) rows ≡ log_text (logged_lines layout rows)
unfolding line_of_row
text_of_rows layout [] = refl
text_of_rows layout (row ∷ rows) = ap (λ (xs : List ℕ). entry_text (logged_line layout row) ++ xs) (text_of_rows layout rows)

pub rows_are_log : (layout : Layout) (rows : List Row) (octets : List ℕ) → IsSound layout → AreLoggable layout rows → octets ≡ log_of_rows layout rows → IsLogOf octets (logged_lines layout rows)
unfolding log_of_rows
rows_are_log layout rows octets sound h e =
    record {
      log = record { grammar = rows_are_lines layout rows sound h.each; order = h.order };
      text = e ∙ text_of_rows layout rows;
    }
