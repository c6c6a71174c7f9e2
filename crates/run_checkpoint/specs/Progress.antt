-- How far the reading of a state's rows has come (profile). Stations count from 0.
use Rattle.std.specs.Prelude.{◌≡◌, ◌⊎◌, ℕ, if◌then◌else◌, List, [], ◌∷◌, ◌++◌, map, slice_index_or, slice_set, Option, None, Some, Result, Ok, Err}
use Rattle.std.specs.List.{range_with_len}
use Rattle.collision_log.specs.declared.row.Row.{Row}
use Rattle.load_plan.specs.declared.plan.Plan.{Plan}
use Rattle.mac_transmit.specs.declared.state.SenderState.{SenderState}
use Rattle.network.specs.declared.outputs.Taken.{Taken}
use Rattle.run_checkpoint.specs.Entries.{StateRow, captures_of_entries, is_reception, rows_of_entries}
use Rattle.run_checkpoint.specs.Judging.{judged_entries}
use Rattle.run_checkpoint.specs.Ranges.{ended_frame, frames_ended}
use Rattle.run_checkpoint.specs.declared.fault.StateFault.{StateFault}
use Rattle.run_checkpoint.specs.declared.fault.StateFault.TheVariants as fault
use Rattle.run_checkpoint.specs.declared.told.ToldSoFar.{ToldSoFar}

-- how many frames of each of so many stations these rows end
abbrev pub ended_counts : ℕ → List Row → List ℕ
ended_counts stations rows = map (λ k. frames_ended k rows) (range_with_len 0 stations)

-- the rows, captures and counts are those of these entries
pub record IsToldOf (stations : ℕ) (told : ToldSoFar) (es : List StateRow) : Type 0 where
  pub rows : told.rows ≡ rows_of_entries es
  pub captures : told.captures.items ≡ captures_of_entries stations es
  pub ended : told.ended.items ≡ ended_counts stations (rows_of_entries es)

-- a judgement that goes on from this answer of its first part; a fault of the first part is that of the whole, unless
-- memory ran out
abbrev pub IsJudgedOn : {A B : Type 0} → (A → Result B StateFault) → Result A StateFault → Result B StateFault → Type 0
IsJudgedOn next (Ok x) judged = judged ≡ next x
IsJudgedOn next (Err f) judged = (judged ≡ Err f) ⊎ (f ≡ fault.OutOfMemory)

-- the judgement of the lines from line n on after the line of a row
abbrev pub judged_after_row : Plan → ℕ → List SenderState → ℕ → List StateRow → Row → List (List ℕ)
    → Result (List StateRow) StateFault
judged_after_row plan t senders n told row lines =
    if is_reception row.body then judged_entries plan t senders n told (Some row) lines
    else judged_entries plan t senders n (told ++ record { row = row; octets = [] } ∷ []) None lines

-- how many frames of each station have ended, where so many had ended before this one of a device ended, or none
abbrev pub count_after : List ℕ → ℕ → Option ℕ → List ℕ
count_after ended device None = ended
count_after ended device (Some frame) = slice_set ended device frame

-- how many frames of each station have ended, where so many had ended before a row
abbrev pub ended_after : List ℕ → Row → List ℕ
ended_after ended row = count_after ended row.device (ended_frame row.body)

-- what each station received, where this was received before a row, with whose frame these octets came
abbrev pub captures_after : List (List Taken) → Row → List ℕ → List (List Taken)
captures_after captures row octets =
    if is_reception row.body then
    slice_set captures row.device (slice_index_or captures row.device [] ++ record { t = row.t; octets = octets } ∷ [])
    else captures
