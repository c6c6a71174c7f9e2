-- The line of a row: what is written is read back, and what is read is the line of what was read.
use Rattle.std.proofs.Common.{◌≡◌, ◌≢◌, ℕ, zero, suc, ◌+◌, ◌-◌, ◌<◌, ◌≤◌, List, [], ◌∷◌, ◌++◌, map, length, Some, refl, sym, ap, subst, ◌∙◌, arith, inl, inr, length-append}
use Rattle.std.specs.Prelude.{codes, nat_le, slice_get, unwrap_or}
use Rattle.std.specs.Str.{bytes_eq}
use Rattle.std.proofs.lemmas.Bool.{cases_Bool, leb-true, leb-false, le-leb, lt-leb}
use Rattle.std.proofs.lemmas.List.{length-map}
use Rattle.std.proofs.lemmas.Slice.Eq.{bytes_eq-Decides}
use Rattle.std.proofs.lemmas.Option.{same_Some, unwrap_or-slice_get}
use Rattle.collision_log.specs.declared.row.Row.{Row}
use Rattle.layout.specs.Sound.{IsSound, device_names}
use Rattle.layout.specs.declared.lines.Layout.{Layout}
use Rattle.log_meter.specs.Lines.{IsLogLine, entry_text}
use Rattle.log_meter.specs.LoggedRows.{IsLoggable, logged_line}
use Rattle.log_meter.specs.declared.line.LogLine.{LogLine}
use Rattle.log_meter.proofs.RowsRead.{rows_are_log}
use Rattle.log_meter.proofs.TallySteps.{same_name}
use Rattle.run_texts.specs.Texts.{line_of_row, log_of_rows}
use Rattle.text_fields.specs.Reading.{after_word}
use Rattle.text_fields.proofs.FoundFields.{bind_some, word_text}
use Rattle.run_checkpoint.specs.LineForms.{log_line_form, row_form}
use Rattle.run_checkpoint.specs.LineTexts.{line_of_row_kept}
use Rattle.run_checkpoint.specs.Places.{device_from, device_of_line}
use Rattle.run_checkpoint.proofs.LogLines.{log_line_found, log_line_read}

-- the name at a place
abbrev name_at : List (List ℕ) → ℕ → List ℕ
name_at names k = unwrap_or (slice_get names k) []

-- no name stands twice
abbrev Different : List (List ℕ) → Type 0
Different names = (i j : ℕ) → i < j → j < length names → name_at names i ≢ name_at names j

at_append_left : (ns ms : List (List ℕ)) (k : ℕ) → k < length ns → name_at (ns ++ ms) k ≡ name_at ns k
at_append_left [] ms k lt = absurd (omega (arith, lt))
at_append_left (n ∷ ns) ms zero lt = refl
at_append_left (n ∷ ns) ms (suc k) lt = at_append_left ns ms k (omega (arith, lt))

at_append_right : (ns ms : List (List ℕ)) (k : ℕ) → name_at (ns ++ ms) (length ns + k) ≡ name_at ms k
at_append_right [] ms k = let e : 0 + k ≡ k = omega arith in ap (name_at ms) e
at_append_right (n ∷ ns) ms k = let e : suc (length ns) + k ≡ suc (length ns + k) = omega arith in ap (name_at ((n ∷ ns) ++ ms)) e ∙ at_append_right ns ms k

-- the name at a place is found there
place_again : (from : ℕ) (names : List (List ℕ)) (k : ℕ) → Different names → k < length names → device_from from (name_at names k) names ≡ Some (from + k)
place_again from [] k apart lt = absurd (omega (arith, lt))
place_again from (n ∷ ns) zero apart lt = rw (same_name n) (ap Some (omega arith))
place_again from (n ∷ ns) (suc k) apart lt =
    elim (cases_Bool (bytes_eq n (name_at ns k))) [
      | inl same ↦ absurd (apart 0 (suc k) (omega arith) lt ((bytes_eq-Decides n (name_at ns k)).0 same))
      | inr other ↦ rw other (place_again (from + 1) ns k (λ i j l m. apart (suc i) (suc j) (omega (arith, l)) (omega (arith, m))) (omega (arith, lt)) ∙ ap Some (omega arith))
    ]

-- where a name is found
record IsPlace (from : ℕ) (name : List ℕ) (names : List (List ℕ)) (d : ℕ) : Type 0 where
  pub k : ℕ
  pub place : d ≡ from + k
  pub within : k < length names
  pub named : name_at names k ≡ name

place_found : (from : ℕ) (name : List ℕ) (names : List (List ℕ)) (d : ℕ) → device_from from name names ≡ Some d → IsPlace from name names d
place_found from name [] d h = cc h
place_found from name (n ∷ ns) d h =
    elim (cases_Bool (bytes_eq n name)) [
      | inl same ↦ record { k = 0; place = sym (same_Some _ _ (rw same at h)) ∙ omega arith; within = omega arith; named = (bytes_eq-Decides n name).0 same }
      | inr other ↦
          let ih = place_found (from + 1) name ns d (rw other at h) in
          record { k = suc ih.k; place = omega (arith, ih.place); within = omega (arith, ih.within); named = ih.named }
    ]

abbrev stations_of : Layout → List (List ℕ)
stations_of layout = map (λ s. s.name) layout.stations

abbrev repeaters_of : Layout → List (List ℕ)
repeaters_of layout = map (λ r. r.name) layout.repeaters

names_differ : (layout : Layout) → IsSound layout → Different (device_names layout)
names_differ layout sound i j l m e =
    sound.device_names i j [] l m (sym (unwrap_or-slice_get (device_names layout) i []) ∙ (e ∙ unwrap_or-slice_get (device_names layout) j []))

stations_differ : (layout : Layout) → Different (device_names layout) → Different (stations_of layout)
stations_differ layout apart i j l m e =
    apart i j l (omega (arith, m, length-append (stations_of layout) (repeaters_of layout)))
    (at_append_left (stations_of layout) (repeaters_of layout) i (omega (arith, l, m)) ∙ (e ∙ sym (at_append_left (stations_of layout) (repeaters_of layout) j m)))

repeaters_differ : (layout : Layout) → Different (device_names layout) → Different (repeaters_of layout)
repeaters_differ layout apart i j l m e =
    apart (length (stations_of layout) + i) (length (stations_of layout) + j) (omega (arith, l)) (omega (arith, m, length-append (stations_of layout) (repeaters_of layout)))
    (at_append_right (stations_of layout) (repeaters_of layout) i ∙ (e ∙ sym (at_append_right (stations_of layout) (repeaters_of layout) j)))

many_stations : (layout : Layout) → length (stations_of layout) ≡ length layout.stations
many_stations layout = length-map layout.stations (λ s. s.name)

many_names : (layout : Layout) → length (device_names layout) ≡ length layout.stations + length (repeaters_of layout)
many_names layout = omega (arith, length-append (stations_of layout) (repeaters_of layout), many_stations layout)

-- the device of a row's line
device_again : (layout : Layout) (row : Row) → IsSound layout → row.device < length (device_names layout) → device_of_line layout (logged_line layout row) ≡ Some row.device
unfolding device_of_line
device_again layout row sound lt =
    let apart = names_differ layout sound in
    let s = length layout.stations in
    let many = many_stations layout in
    let all = many_names layout in
    let d = row.device in
    elim (cases_Bool (nat_le s d)) [
      | inl repeater ↦
          let le : s ≤ d = leb-true s d repeater in
          let k = d - s in
          let e : d ≡ s + k = omega (arith, le) in
          let f : d ≡ length (stations_of layout) + k = omega (arith, le, many) in
          let named : name_at (device_names layout) d ≡ name_at (repeaters_of layout) k = ap (name_at (device_names layout)) f ∙ at_append_right (stations_of layout) (repeaters_of layout) k in
          rw (repeater, named) (place_again s (repeaters_of layout) k (repeaters_differ layout apart) (omega (arith, lt, all, e)) ∙ ap Some (sym e))
      | inr station ↦
          let less : d < s = leb-false s d station in
          let named : name_at (device_names layout) d ≡ name_at (stations_of layout) d = at_append_left (stations_of layout) (repeaters_of layout) d (omega (arith, less, many)) in
          let z : 0 + d ≡ d = omega arith in
          rw (station, named) (place_again 0 (stations_of layout) d (stations_differ layout apart) (omega (arith, less, many)) ∙ ap Some z)
    ]

-- what a line's device is
record IsDeviceOf (layout : Layout) (l : LogLine) (d : ℕ) : Type 0 where
  pub kind : nat_le (length layout.stations) d ≡ l.repeater
  pub within : d < length (device_names layout)
  pub named : name_at (device_names layout) d ≡ l.name

device_found : (layout : Layout) (l : LogLine) (d : ℕ) → device_of_line layout l ≡ Some d → IsDeviceOf layout l d
unfolding device_of_line
device_found layout l d h =
    let s = length layout.stations in
    let many = many_stations layout in
    let all = many_names layout in
    elim (cases_Bool l.repeater) [
      | inl repeater ↦
          let p = place_found s l.name (repeaters_of layout) d (rw repeater at h) in
          let f : d ≡ length (stations_of layout) + p.k = omega (arith, p.place, many) in
          record {
            kind = le-leb s d (omega (arith, p.place)) ∙ sym repeater;
            within = omega (arith, p.within, p.place, all);
            named = ap (name_at (device_names layout)) f ∙ (at_append_right (stations_of layout) (repeaters_of layout) p.k ∙ p.named);
          }
      | inr station ↦
          let p = place_found 0 l.name (stations_of layout) d (rw station at h) in
          let e : d ≡ p.k = omega (arith, p.place) in
          let lt : d < length (stations_of layout) = omega (arith, p.within, e) in
          record {
            kind = lt-leb s d (omega (arith, lt, many)) ∙ sym station;
            within = omega (arith, lt, all, many);
            named = at_append_left (stations_of layout) (repeaters_of layout) d lt ∙ (ap (name_at (stations_of layout)) e ∙ p.named);
          }
    ]

-- the line of a row in a log
row_text : (layout : Layout) (row : Row) → line_of_row (device_names layout) (length layout.stations) row ≡ entry_text (logged_line layout row)
unfolding line_of_row
row_text layout row = refl

logged : (layout : Layout) (row : Row) → IsSound layout → IsLoggable layout row → IsLogLine (logged_line layout row)
logged layout row sound h =
    (rows_are_log layout (row ∷ []) (log_of_rows layout (row ∷ [])) sound (record { each = (h, tt); order = (omega arith, tt) }) refl).log.grammar.0

-- the line of a row is read back
pub row_again : (layout : Layout) (row : Row) → IsSound layout → IsLoggable layout row → row_form layout (line_of_row_kept layout row) ≡ Some row
unfolding row_form line_of_row_kept
row_again layout row sound h =
    let text = line_of_row (device_names layout) (length layout.stations) row in
    rw (
      log_line_read text (logged_line layout row) (logged layout row sound h) (row_text layout row),
      device_again layout row sound h.device,
    ) refl

-- a line of a row, and what it says
pub record IsRowLine (layout : Layout) (line : List ℕ) (row : Row) : Type 0 where
  pub loggable : IsLoggable layout row
  pub text : line ≡ line_of_row_kept layout row

pub row_found : (layout : Layout) (line : List ℕ) (row : Row) → row_form layout line ≡ Some row → IsRowLine layout line row
unfolding row_form line_of_row_kept
row_found layout line row h =
    let rest = bind_some (after_word (codes "row ") line) _ row h in
    let l = bind_some (log_line_form rest.0) _ row rest.2 in
    let d = bind_some (device_of_line layout l.0) _ row l.2 in
    let is = same_Some _ _ d.2 in
    let f = log_line_found rest.0 l.0 l.1 in
    let p = device_found layout l.0 d.0 d.1 in
    let r : Row = record { t = l.0.t; device = d.0; body = l.0.body } in
    let same : logged_line layout r ≡ l.0 = rw (p.kind, p.named) refl in
    let loggable : IsLoggable layout r = record { time = f.0.time; device = p.within; kind = p.kind ∙ f.0.device; numbers = f.0.numbers } in
    let text : line ≡ codes "row " ++ line_of_row (device_names layout) (length layout.stations) r =
    word_text (codes "row ") line rest.0 rest.1 ∙ ap (λ (x : List ℕ). codes "row " ++ x) (f.1 ∙ (ap entry_text (sym same) ∙ sym (row_text layout r))) in
    let all : IsRowLine layout line r = record { loggable = loggable; text = text } in
    subst (IsRowLine layout line) is all
