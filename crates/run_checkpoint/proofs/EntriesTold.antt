-- The reading of rows: what each line adds to what was told.
use Rattle.std.proofs.Common.{◌≡◌, ℕ, ◌+◌, ◌≤◌, ◌&&◌, true, false, List, [], ◌∷◌, ◌++◌, length, None, Ok, Err, refl, sym, ap, ◌∙◌, arith}
use Rattle.std.specs.Prelude.{nat_lt, slice_get}
use Rattle.std.proofs.lemmas.Bool.{and_parts}
use Rattle.std.proofs.lemmas.List.FromFn.{length-map-range_with_len}
use Rattle.collision_log.specs.declared.row.Row.{Row}
use Rattle.load_plan.specs.declared.plan.Plan.{Plan}
use Rattle.mac_transmit.specs.declared.state.SenderState.{SenderState}
use Rattle.run_checkpoint.specs.Entries.{StateRow, rows_of_entries}
use Rattle.run_checkpoint.specs.Judging.{judged_end, judged_entries, judged_line}
use Rattle.run_checkpoint.specs.LineForms.{is_end_line, row_form}
use Rattle.run_checkpoint.specs.Progress.{IsToldOf, captures_after, ended_after, ended_counts, judged_after_row}
use Rattle.run_checkpoint.specs.Ranges.{ended_frame, frames_ended, is_in_order, is_next_frame, is_row_after, is_row_in, last_row, queue_place}
use Rattle.run_checkpoint.specs.TextLines.{text_lines}
use Rattle.run_checkpoint.specs.declared.fault.StateFault.{StateFault}
use Rattle.run_checkpoint.specs.declared.fault.StateFault.TheVariants as fault
use Rattle.run_checkpoint.specs.declared.told.ToldSoFar.{ToldSoFar}
use Rattle.run_checkpoint.proofs.EntriesSteps.{SoFar, told_more}
use Rattle.run_checkpoint.proofs.Judgements.{line_ok}
use Rattle.run_checkpoint.proofs.ReadParts.{RowsTold}

pub lines_missing : (plan : Plan) (t : ℕ) (senders : List SenderState) (first : ℕ) (octets : List ℕ) (told : ToldSoFar) (number : ℕ) (rest : List ℕ) (s : SoFar plan t senders first octets told number rest) → text_lines rest ≡ []
    → RowsTold (length senders) (judged_entries plan t senders first [] None (text_lines octets)) ≡ Err (fault.BadLine number)
lines_missing plan t senders first octets told number rest s none = rw (s.judged, none) refl

pub line_last : (plan : Plan) (t : ℕ) (senders : List SenderState) (first : ℕ) (octets : List ℕ) (told : ToldSoFar) (number : ℕ) (rest : List ℕ) (s : SoFar plan t senders first octets told number rest) (line after : List ℕ)
    → text_lines rest ≡ line ∷ text_lines after → is_end_line line ≡ true
    → RowsTold (length senders) (judged_entries plan t senders first [] None (text_lines octets)) ≡ RowsTold (length senders) (judged_end number senders s.es (text_lines after))
line_last plan t senders first octets told number rest s line after is end = rw (s.judged, is, end) refl

pub row_fault : (plan : Plan) (t : ℕ) (senders : List SenderState) (first : ℕ) (octets : List ℕ) (told : ToldSoFar) (number : ℕ) (rest : List ℕ) (s : SoFar plan t senders first octets told number rest) (line after : List ℕ) (f : StateFault)
    → text_lines rest ≡ line ∷ text_lines after → is_end_line line ≡ false → judged_line number (row_form plan.layout line) (is_row_after plan t senders told.rows) ≡ Err f
    → RowsTold (length senders) (judged_entries plan t senders first [] None (text_lines octets)) ≡ Err f
row_fault plan t senders first octets told number rest s line after f is other bad =
    let e : judged_line number (row_form plan.layout line) (is_row_after plan t senders (rows_of_entries s.es)) ≡ Err f =
    ap (λ (rows : List Row). judged_line number (row_form plan.layout line) (is_row_after plan t senders rows)) (sym s.told_of.rows) ∙ bad in
    rw (s.judged, is, other, e) refl

pub row_told : (plan : Plan) (t : ℕ) (senders : List SenderState) (first : ℕ) (octets : List ℕ) (told : ToldSoFar) (number : ℕ) (rest : List ℕ) (s : SoFar plan t senders first octets told number rest) (line after : List ℕ) (row : Row)
    → text_lines rest ≡ line ∷ text_lines after → is_end_line line ≡ false → judged_line number (row_form plan.layout line) (is_row_after plan t senders told.rows) ≡ Ok row
    → judged_entries plan t senders first [] None (text_lines octets) ≡ judged_after_row plan t senders (number + 1) s.es row (text_lines after)
row_told plan t senders first octets told number rest s line after row is other good =
    let e : judged_line number (row_form plan.layout line) (is_row_after plan t senders (rows_of_entries s.es)) ≡ Ok row =
    ap (λ (rows : List Row). judged_line number (row_form plan.layout line) (is_row_after plan t senders rows)) (sym s.told_of.rows) ∙ good in
    rw (s.judged, is, other, e) refl

-- a row's frame is the next one
next_of : (plan : Plan) (t : ℕ) (senders : List SenderState) (before : List Row) (row : Row) → is_row_after plan t senders before row ≡ true
    → is_next_frame (frames_ended row.device before) (queue_place (slice_get senders row.device)) (ended_frame row.body) ≡ true
unfolding is_row_after
next_of plan t senders before row h =
    (and_parts ((nat_lt row.t t && is_in_order (last_row None before) row) && is_row_in plan row) (is_next_frame (frames_ended row.device before) (queue_place (slice_get senders row.device)) (ended_frame row.body)) h).1

-- one entry is read
pub entry_told : (plan : Plan) (t : ℕ) (senders : List SenderState) (first : ℕ) (octets : List ℕ) (told : ToldSoFar) (number : ℕ) (rest : List ℕ) (s : SoFar plan t senders first octets told number rest) (line after : List ℕ) (row : Row)
    → text_lines rest ≡ line ∷ text_lines after → is_end_line line ≡ false → judged_line number (row_form plan.layout line) (is_row_after plan t senders told.rows) ≡ Ok row
    → (frame : List ℕ) (number' : ℕ) (rest' : List ℕ) (new : ToldSoFar)
    → judged_after_row plan t senders (number + 1) s.es row (text_lines after) ≡ judged_entries plan t senders number' (s.es ++ record { row = row; octets = frame } ∷ []) None (text_lines rest')
    → number' + length rest' ≤ number + 1 + length after → length after + 1 ≤ length rest
    → new.rows ≡ told.rows ++ row ∷ [] → new.captures.items ≡ captures_after told.captures.items row frame → new.ended.items ≡ ended_after told.ended.items row
    → SoFar plan t senders first octets new number' rest'
entry_told plan t senders first octets told number rest s line after row is other good frame number' rest' new due room shorter rows captures ended =
    record {
      es = s.es ++ record { row = row; octets = frame } ∷ [];
      told_of =
          told_more (length senders) (queue_place (slice_get senders row.device)) told new s.es row frame s.told_of
          (next_of plan t senders told.rows row (line_ok number (row_form plan.layout line) (is_row_after plan t senders told.rows) row good).1) rows captures ended;
      judged = row_told plan t senders first octets told number rest s line after row is other good ∙ due;
      room = omega (arith, room, shorter, s.room);
    }

pub as_many_ended : (n : ℕ) (told : ToldSoFar) (es : List StateRow) → IsToldOf n told es → length told.ended.items ≡ n
as_many_ended n told es h = ap length h.ended ∙ length-map-range_with_len (λ k. frames_ended k (rows_of_entries es)) 0 n

pub ended_now : (n : ℕ) (told : ToldSoFar) (es : List StateRow) → IsToldOf n told es → told.ended.items ≡ ended_counts n told.rows
ended_now n told es h = h.ended ∙ ap (ended_counts n) (sym h.rows)
