-- When octets are a line of the grammar.
use Rattle.std.proofs.Common.{◌≡◌, ℕ, suc, ◌==◌, true, false, Err, List, [], ◌∷◌, ◌++◌, length, refl, sym, ap, ◌∙◌, arith, Some, None}
use Rattle.std.specs.Prelude.{Result, ◌≢◌}
use Rattle.std.proofs.lemmas.Bool.{eqb-true}
use Rattle.log_meter.specs.declared.fault.LineFault.{LineFault}
use Rattle.log_meter.specs.declared.fault.LineFault.TheVariants.{Bad}
use Rattle.std.proofs.lemmas.List.{append-nil, append_cancel_right}
use Rattle.std.proofs.lemmas.Option.{none-some, same_Some}
use Rattle.log_meter.specs.Lines.{IsLogLine, entry_text}
use Rattle.log_meter.specs.Reading.{log_line_at}
use Rattle.log_meter.specs.declared.line.LogLine.{LogLine}
use Rattle.log_meter.proofs.WholeLines.{bare_line, line_again, line_found}

-- a line is read as itself, with nothing after it
pub line_is_read : (xs : List ℕ) (l : LogLine) → IsLogLine l → entry_text l ≡ xs ++ 10 ∷ [] → log_line_at xs ≡ Some (l, [])
line_is_read xs l grammar h =
    let bare = append_cancel_right (bare_line l) xs (10 ∷ []) h in
    ap log_line_at (sym bare ∙ sym (append-nil (bare_line l))) ∙ line_again l [] grammar refl

-- what is read with nothing after it is a line
pub read_is_line : (xs : List ℕ) (l : LogLine) → log_line_at xs ≡ Some (l, []) → IsLogLine l × (entry_text l ≡ xs ++ 10 ∷ [])
read_is_line xs l h =
    let b = line_found xs (l, []) h in
    (b.grammar, ap (λ (ys : List ℕ). ys ++ 10 ∷ []) (sym (append-nil (bare_line l)) ∙ sym b.text))

-- where nothing is read, there is no line
pub nothing_read : (xs : List ℕ) (l : LogLine) → log_line_at xs ≡ None → IsLogLine l → entry_text l ≡ xs ++ 10 ∷ [] → ⊥
nothing_read xs l none grammar h = none-some (l, []) (sym none ∙ line_is_read xs l grammar h)

-- nor where octets follow
pub more_after : (xs : List ℕ) (m : LogLine) (rest : List ℕ) (l : LogLine) → log_line_at xs ≡ Some (m, rest) → rest ≢ [] → IsLogLine l → entry_text l ≡ xs ++ 10 ∷ [] → ⊥
more_after xs m rest l found more grammar h =
    more (ap (λ (p : LogLine × List ℕ). p.1) (same_Some _ _ (sym found ∙ line_is_read xs l grammar h)))

-- where a line is read, the answer is another than that there is none
pub line_is_there : (xs : List ℕ) (m : LogLine) (rest : List ℕ) (r : Result LogLine LineFault) → log_line_at xs ≡ Some (m, rest) → (length rest == 0) ≡ true → r ≢ Err Bad
    → (r ≡ Err Bad → (l : LogLine) → IsLogLine l → entry_text l ≡ xs ++ 10 ∷ [] → ⊥)
    × (((l : LogLine) → IsLogLine l → entry_text l ≢ xs ++ 10 ∷ []) → r ≡ Err Bad)
line_is_there xs m [] r found whole other =
    let is = read_is_line xs m found in
    (λ e. absurd (other e), λ none. absurd (none m is.0 is.1))
line_is_there xs m (o ∷ os) r found whole other = absurd (omega (arith, eqb-true (suc (length os)) 0 whole))

-- the line that is read is a line
pub whole_is_line : (xs : List ℕ) (m : LogLine) (rest : List ℕ) → log_line_at xs ≡ Some (m, rest) → (length rest == 0) ≡ true → IsLogLine m × (entry_text m ≡ xs ++ 10 ∷ [])
whole_is_line xs m [] found whole = read_is_line xs m found
whole_is_line xs m (o ∷ os) found whole = absurd (omega (arith, eqb-true (suc (length os)) 0 whole))

-- a list that isn't empty
pub some_left : (rest : List ℕ) → (length rest == 0) ≡ false → rest ≢ []
some_left [] h e = cc h
some_left (o ∷ os) h e = cc e
