-- When octets are a line of the log with its line feed.
use Rattle.std.proofs.Common.{◌≡◌, ℕ, List, [], ◌∷◌, ◌++◌, Some, None, refl, sym, ap, ◌∙◌, append-nil}
use Rattle.std.specs.Prelude.{Option, codes, ◌≢◌}
use Rattle.log_meter.specs.Lines.{IsLogLine, entry_text}
use Rattle.log_meter.specs.Reading.{log_line_at}
use Rattle.log_meter.specs.declared.line.LogLine.{LogLine}
use Rattle.text_fields.proofs.FoundFields.{bind_some}
use Rattle.log_meter.proofs.LinesApart.{front_is_read}
use Rattle.log_meter.proofs.WholeLines.{bare_line, line_found}
use Rattle.run_checkpoint.specs.LineForms.{log_line_form}
use Rattle.run_checkpoint.proofs.Figures.{whole_text}

-- a line of the log is read as itself
pub log_line_read : (line : List ℕ) (l : LogLine) → IsLogLine l → line ≡ entry_text l → log_line_form line ≡ Some l
unfolding log_line_form
log_line_read line l grammar e = rw (front_is_read line l [] grammar (e ∙ sym (append-nil (entry_text l)))) refl

-- and what is read is a line of the log
pub log_line_found : (line : List ℕ) (l : LogLine) → log_line_form line ≡ Some l → IsLogLine l × (line ≡ entry_text l)
unfolding log_line_form
log_line_found line l h =
    let b = bind_some (log_line_at line) _ l h in
    let w = whole_text b.0.0 l b.0.1 b.2 in
    let f = line_found line b.0 b.1 in
    rw (← w.0) (f.grammar, f.text ∙ ap (λ xs. bare_line b.0.0 ++ xs) w.1)

is_nothing : {A : Type 0} (o : Option A) → ((x : A) → o ≢ Some x) → o ≡ None
is_nothing None h = refl
is_nothing (Some x) h = absurd (h x refl)

pub no_feed_form : (line : List ℕ) → ((front : List ℕ) → line ≢ front ++ 10 ∷ []) → log_line_form line ≡ None
no_feed_form line none = is_nothing (log_line_form line) (λ l e. none (bare_line l) (log_line_found line l e).1)

pub bad_form : (line front : List ℕ) → line ≡ front ++ 10 ∷ [] → ((l : LogLine) → IsLogLine l → entry_text l ≢ front ++ codes "\n") → log_line_form line ≡ None
bad_form line front e bad = is_nothing (log_line_form line) (λ l h. let f = log_line_found line l h in bad l f.0 (sym f.1 ∙ e))
