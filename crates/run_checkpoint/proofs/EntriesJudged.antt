-- The lines of rows and of octets: those of a state have no fault, and lines without a fault are those of a state.
use Rattle.std.proofs.Common.{◌≡◌, ℕ, suc, ◌+◌, ◌<◌, ◌^◌, Bool, true, false, List, [], ◌∷◌, ◌++◌, length, Option, None, Some, Ok, refl, sym, ap, subst, ◌∙◌, arith, inl, inr, append_assoc, append-nil}
use Rattle.std.specs.List.{AllByRecursion}
use Rattle.std.proofs.lemmas.Bool.{cases_Bool, eqb-true}
use Rattle.std.proofs.lemmas.List.{map-append}
use Rattle.std.proofs.lemmas.Slice.Eq.{bytes_eq-Decides}
use Rattle.collision_log.specs.declared.row.Body.{Body}
use Rattle.collision_log.specs.declared.row.Body.TheVariants.{Sent, Collided, GivenUp, Cut, Received, Dropped, Clash, Closed, Opened, Halted}
use Rattle.collision_log.specs.declared.row.Row.{Row}
use Rattle.layout.specs.declared.lines.Layout.{Layout}
use Rattle.load_plan.specs.declared.plan.Plan.{Plan}
use Rattle.load_plan.proofs.PlansAreSound.{sound_of_plan}
use Rattle.mac_transmit.specs.declared.state.SenderState.{SenderState}
use Rattle.run_checkpoint.specs.Entries.{StateRow, is_length_of, is_reception, lines_of_entries, lines_of_entry, rows_of_entries}
use Rattle.run_checkpoint.specs.Judging.{judged_end, judged_entries, judged_line, judged_rest}
use Rattle.run_checkpoint.specs.LineForms.{is_end_line, octets_form, row_form}
use Rattle.run_checkpoint.specs.LineTexts.{end_line, line_of_octets, line_of_row_kept}
use Rattle.run_checkpoint.specs.Ranges.{do_all_end, is_row_after}
use Rattle.run_checkpoint.specs.States.{AreEntriesAfter, IsEntryAfter}
use Rattle.run_checkpoint.proofs.Judgements.{line_again, line_ok, same_ok, then_ok}
use Rattle.run_checkpoint.proofs.OctetsFound.{octets_text}
use Rattle.run_checkpoint.proofs.OctetsRead.{octets_again}
use Rattle.run_checkpoint.proofs.RowForms.{row_again, row_found}

-- a row's line is not the last line
row_goes_on : (layout : Layout) (row : Row) → is_end_line (line_of_row_kept layout row) ≡ false
unfolding line_of_row_kept
row_goes_on layout row = refl

-- with a row of another kind no octets came
pub no_octets : (body : Body) (octets : List ℕ) → is_reception body ≡ false → is_length_of body (length octets) ≡ true → octets ≡ []
no_octets body [] other h = refl
no_octets (Received n) (o ∷ os) other h = cc other
no_octets (Sent frame start attempt) (o ∷ os) other h = absurd (omega (arith, eqb-true (suc (length os)) 0 h))
no_octets (Collided frame start attempt hit drawn) (o ∷ os) other h = absurd (omega (arith, eqb-true (suc (length os)) 0 h))
no_octets (GivenUp frame start hit) (o ∷ os) other h = absurd (omega (arith, eqb-true (suc (length os)) 0 h))
no_octets (Cut frame start attempt hit) (o ∷ os) other h = absurd (omega (arith, eqb-true (suc (length os)) 0 h))
no_octets (Dropped why halves) (o ∷ os) other h = absurd (omega (arith, eqb-true (suc (length os)) 0 h))
no_octets Clash (o ∷ os) other h = absurd (omega (arith, eqb-true (suc (length os)) 0 h))
no_octets (Closed port) (o ∷ os) other h = absurd (omega (arith, eqb-true (suc (length os)) 0 h))
no_octets (Opened port) (o ∷ os) other h = absurd (omega (arith, eqb-true (suc (length os)) 0 h))
no_octets (Halted port) (o ∷ os) other h = absurd (omega (arith, eqb-true (suc (length os)) 0 h))

none_with : (body : Body) → is_reception body ≡ false → is_length_of body 0 ≡ true
none_with (Received n) other = cc other
none_with (Sent frame start attempt) other = refl
none_with (Collided frame start attempt hit drawn) other = refl
none_with (GivenUp frame start hit) other = refl
none_with (Cut frame start attempt hit) other = refl
none_with (Dropped why halves) other = refl
none_with Clash other = refl
none_with (Closed port) other = refl
none_with (Opened port) other = refl
none_with (Halted port) other = refl

-- the rows of entries, and one more
pub rows_snoc : (es : List StateRow) (e : StateRow) → rows_of_entries (es ++ e ∷ []) ≡ rows_of_entries es ++ e.row ∷ []
rows_snoc es e = map-append (λ (x : StateRow). x.row) es (e ∷ [])

abbrev Kept : Plan → ℕ → List SenderState → List StateRow → List StateRow → Type 0
Kept plan t senders told es = AreEntriesAfter plan t senders (rows_of_entries told) es

-- one entry is told, and then the others
told_more : (told : List StateRow) (e : StateRow) (es : List StateRow) → (told ++ e ∷ []) ++ es ≡ told ++ e ∷ es
told_more told e es = append_assoc told (e ∷ []) es

pub entries_again : (plan : Plan) (t : ℕ) (senders : List SenderState) (n : ℕ) (told es : List StateRow) → Kept plan t senders told es → do_all_end 0 senders (rows_of_entries (told ++ es)) ≡ true
    → judged_entries plan t senders n told None (lines_of_entries plan.layout es ++ end_line ∷ []) ≡ Ok (told ++ es)
entries_again plan t senders n told [] keeps ended =
    let all : told ++ [] ≡ told = append-nil told in
    rw all (rw (rw all at ended) refl)
entries_again plan t senders n told (e ∷ es) keeps ended =
    let layout = plan.layout in
    let row = e.row in
    let after = keeps.0 in
    let whole : do_all_end 0 senders (rows_of_entries ((told ++ e ∷ []) ++ es)) ≡ true = rw (told_more told e es) ended in
    let next = λ (m : ℕ). entries_again plan t senders m (told ++ e ∷ []) es (subst (λ (rows : List Row). AreEntriesAfter plan t senders rows es) (sym (rows_snoc told e)) keeps.1) whole ∙ ap Ok (told_more told e es) in
    let first = line_again n (row_form layout (line_of_row_kept layout row)) (is_row_after plan t senders (rows_of_entries told)) row (row_again layout row (sound_of_plan plan) after.row) after.after in
    elim (cases_Bool (is_reception row.body)) [
      | inl came ↦
          let second = line_again (n + 1) (octets_form (line_of_octets e.octets)) (λ (octets : List ℕ). is_length_of row.body (length octets)) e.octets (octets_again e.octets after.octets) after.length in
          rw (came, row_goes_on layout row, first, came, second) (next (n + 1 + 1))
      | inr other ↦
          let none : e.octets ≡ [] = no_octets row.body e.octets other after.length in
          let same : ◌≡◌ {A = StateRow} (record { row = row; octets = [] }) e = rw (← none) refl in
          rw (other, row_goes_on layout row, first, other, same) (next (n + 1))
    ]

-- entries that the lines tell
pub record AreToldEntries (plan : Plan) (t : ℕ) (senders : List SenderState) (told : List StateRow) (lines : List (List ℕ)) (all : List StateRow) : Type 0 where
  pub es : List StateRow
  pub whole : all ≡ told ++ es
  pub keeps : AreEntriesAfter plan t senders (rows_of_entries told) es
  pub ended : do_all_end 0 senders (rows_of_entries all) ≡ true
  pub text : lines ≡ lines_of_entries plan.layout es ++ end_line ∷ []

-- the octets of a row that was told, and the entries after it
pub record AreDueEntries (plan : Plan) (t : ℕ) (senders : List SenderState) (told : List StateRow) (row : Row) (lines : List (List ℕ)) (all : List StateRow) : Type 0 where
  pub octets : List ℕ
  pub rest : List (List ℕ)
  pub length : is_length_of row.body (length octets) ≡ true
  pub bytes : AllByRecursion (λ octet. octet < 2 ^ 8) octets
  pub text : lines ≡ line_of_octets octets ∷ rest
  pub more : AreToldEntries plan t senders (told ++ record { row = row; octets = octets } ∷ []) rest all

abbrev pub AreEntriesFound : Plan → ℕ → List SenderState → List StateRow → Option Row → List (List ℕ) → List StateRow → Type 0
AreEntriesFound plan t senders told None lines all = AreToldEntries plan t senders told lines all
AreEntriesFound plan t senders told (Some row) lines all = AreDueEntries plan t senders told row lines all

-- the last line
end_found : (plan : Plan) (t : ℕ) (senders : List SenderState) (n : ℕ) (told : List StateRow) (lines : List (List ℕ)) (all : List StateRow) → judged_end n senders told lines ≡ Ok all
    → AreToldEntries plan t senders told (end_line ∷ lines) all
end_found plan t senders n told lines all h =
    elim (cases_Bool (do_all_end 0 senders (rows_of_entries told))) [
      | inl ended ↦ at_end lines (rw ended at h) ended
      | inr other ↦ cc (rw other at h)
    ]
  where
    at_end : (rest : List (List ℕ)) → judged_rest n told rest ≡ Ok all → do_all_end 0 senders (rows_of_entries told) ≡ true → AreToldEntries plan t senders told (end_line ∷ rest) all
    at_end [] is ended =
        let e : told ≡ all = same_ok told all is in
        record { es = []; whole = sym e ∙ sym (append-nil told); keeps = tt; ended = rw (← e) ended; text = refl }
    at_end (l ∷ ls) is ended = cc is

-- one entry in front of others
entry_before : (plan : Plan) (t : ℕ) (senders : List SenderState) (told : List StateRow) (e : StateRow) (lines : List (List ℕ)) (all : List StateRow) → IsEntryAfter plan t senders (rows_of_entries told) e
    → AreToldEntries plan t senders (told ++ e ∷ []) lines all → AreToldEntries plan t senders told (lines_of_entry plan.layout e ++ lines) all
entry_before plan t senders told e lines all is h =
    record {
      es = e ∷ h.es;
      whole = h.whole ∙ told_more told e h.es;
      keeps = (is, subst (λ (rows : List Row). AreEntriesAfter plan t senders rows h.es) (rows_snoc told e) h.keeps);
      ended = h.ended;
      text = ap (λ (x : List (List ℕ)). lines_of_entry plan.layout e ++ x) h.text ∙ sym (append_assoc (lines_of_entry plan.layout e) (lines_of_entries plan.layout h.es) (end_line ∷ []));
    }

lines_came : (layout : Layout) (row : Row) (octets : List ℕ) (rest : List (List ℕ)) (line : List ℕ) (lines : List (List ℕ)) → is_reception row.body ≡ true → line ≡ line_of_row_kept layout row → lines ≡ line_of_octets octets ∷ rest
    → lines_of_entry layout (record { row = row; octets = octets }) ++ rest ≡ line ∷ lines
lines_came layout row octets rest line lines came text more = rw (came, text, more) refl

lines_bare : (layout : Layout) (row : Row) (lines : List (List ℕ)) (line : List ℕ) → is_reception row.body ≡ false → line ≡ line_of_row_kept layout row → lines_of_entry layout (record { row = row; octets = [] }) ++ lines ≡ line ∷ lines
lines_bare layout row lines line bare text = rw (bare, text) refl

pub entries_found : (plan : Plan) (t : ℕ) (senders : List SenderState) (n : ℕ) (told : List StateRow) (due : Option Row) (lines : List (List ℕ)) (all : List StateRow)
    → judged_entries plan t senders n told due lines ≡ Ok all → AreEntriesFound plan t senders told due lines all
entries_found plan t senders n told None [] all h = cc h
entries_found plan t senders n told (Some row) [] all h = cc h
entries_found plan t senders n told (Some row) (line ∷ lines) all h =
    let keeps : List ℕ → Bool = λ octets. is_length_of row.body (length octets) in
    let o = then_ok (judged_line n (octets_form line) keeps) _ all h in
    let l = line_ok n (octets_form line) keeps o.0 o.1 in
    let text = octets_text line o.0 l.0 in
    record {
      octets = o.0;
      rest = lines;
      length = l.1;
      bytes = text.0;
      text = ap (λ (x : List ℕ). x ∷ lines) text.1;
      more = entries_found plan t senders (n + 1) (told ++ record { row = row; octets = o.0 } ∷ []) None lines all o.2;
    }
entries_found plan t senders n told None (line ∷ lines) all h =
    elim (cases_Bool (is_end_line line)) [
      | inl end ↦
          let e : line ≡ end_line = (bytes_eq-Decides line end_line).0 end in
          subst (λ (x : List ℕ). AreToldEntries plan t senders told (x ∷ lines) all) (sym e) (end_found plan t senders n told lines all (rw end at h))
      | inr other ↦
          let keeps = is_row_after plan t senders (rows_of_entries told) in
          let r = then_ok (judged_line n (row_form plan.layout line) keeps) _ all (rw other at h) in
          let l = line_ok n (row_form plan.layout line) keeps r.0 r.1 in
          let f = row_found plan.layout line r.0 l.0 in
          elim (cases_Bool (is_reception r.0.body)) [
            | inl came ↦
                let d = entries_found plan t senders (n + 1) told (Some r.0) lines all (rw came at r.2) in
                let e : StateRow = record { row = r.0; octets = d.octets } in
                let b = entry_before plan t senders told e d.rest all (record { row = f.loggable; after = l.1; length = d.length; octets = d.bytes }) d.more in
                let whole : lines_of_entry plan.layout e ++ d.rest ≡ line ∷ lines = lines_came plan.layout r.0 d.octets d.rest line lines came f.text d.text in
                subst (λ (x : List (List ℕ)). AreToldEntries plan t senders told x all) whole b
            | inr bare ↦
                let e : StateRow = record { row = r.0; octets = [] } in
                let d = entries_found plan t senders (n + 1) (told ++ e ∷ []) None lines all (rw bare at r.2) in
                let b = entry_before plan t senders told e lines all (record { row = f.loggable; after = l.1; length = none_with r.0.body bare; octets = tt }) d in
                let whole : lines_of_entry plan.layout e ++ lines ≡ line ∷ lines = lines_bare plan.layout r.0 lines line bare f.text in
                subst (λ (x : List (List ℕ)). AreToldEntries plan t senders told x all) whole b
          ]
    ]
