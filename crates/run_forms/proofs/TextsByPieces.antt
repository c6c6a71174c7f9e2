-- A line that is written to the sink piece by piece.
use Rattle.std.proofs.Common.{◌≡◌, ℕ, ◌+◌, ◌≤◌, List, ◌++◌, take, drop, length, Option, None, Some, option_map, Result, Ok, Err, OnOk, OnErr, refl, ap, ◌∙◌, inl, inr, append_assoc, arith}
use Rattle.std.proofs.lemmas.List.{take_all}
use Rattle.std.proofs.Math.Seq.{take-add}
use Rattle.outside.specs.Files.{written_more, Rose}
use Rattle.run_endings.specs.Writing.{IsSaid, added, IsCutShort}

line_next : (E : Type 0) (line : List ℕ) (k n : ℕ) (written : Option (List ℕ)) → option_map (written_more {E = E} (drop k line) (Ok n)) (option_map (λ w. w ++ take k line) written) ≡ option_map (λ w. w ++ take (k + n) line) written
line_next E line k n None = refl
line_next E line k n (Some w) = ap Some (rw (append_assoc, ← take-add k n line))

-- one more piece of a line
pub said-next : (E : Type 0) (line : List ℕ) (k n : ℕ) (written now next : Option (List ℕ)) → now ≡ option_map (λ w. w ++ take k line) written → next ≡ option_map (written_more {E = E} (drop k line) (Ok n)) now → next ≡ option_map (λ w. w ++ take (k + n) line) written
said-next E line k n written now next was is = is ∙ rw was (line_next E line k n written)

-- a line was written whole, or the sink refused
pub said_by : (E : Type 0) (r : Result (Unit {0}) E) (line : List ℕ) (written now : Option (List ℕ)) (before after : ℕ) → OnOk r (now ≡ added line written) → OnErr r (IsCutShort line written now) → OnErr r (Rose before after) → before ≤ after → IsSaid line written now before after
said_by E (Ok _) line written now before after ok err rose risen = (length line, rw (take_all (length line) line (omega arith)) ok, risen, inl refl)
said_by E (Err _) line written now before after ok err rose risen = (err.0, err.1, risen, inr rose)
