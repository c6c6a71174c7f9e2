-- The laws of tables (profile). Stations count from 0, frames from 1.
use Rattle.std.specs.Prelude.{◌≡◌, ℕ, ◌+◌, ◌≤◌, Bool, false, if◌then◌else◌, List, [], ◌∷◌, Option, None, Some, count_by, is_some}
use Rattle.frame_layout.specs.declared.queue.Ready.{Ready}
use Rattle.layout.specs.declared.lines.Layout.{Layout}
use Rattle.load_plan.specs.declared.plan.Plan.{Plan}
use Rattle.log_meter.specs.Figures.{is_sent_body, kind_count}
use Rattle.log_meter.specs.Logs.{IsLog}
use Rattle.log_meter.specs.declared.line.LogLine.{LogLine}
use Rattle.frame_table.specs.Devices.{events_of}
use Rattle.frame_table.specs.Histories.{end_at, history}
use Rattle.frame_table.specs.Reached.{was_sent}
use Rattle.frame_table.specs.Tables.{IsFrameTable}
use Rattle.frame_table.specs.Unplanned.{first_unplanned}
use Rattle.frame_table.specs.declared.history.End.{End}

-- a plan and a log have a table, and only one
pub record HaveOneTable (plan : Plan) (lines : List LogLine) : Type 0 where
  pub text : List ℕ
  pub is : IsFrameTable plan lines text
  pub only : (other : List ℕ) → IsFrameTable plan lines other → other ≡ text

-- whether an end says that a frame was sent
abbrev pub is_end_of_sent : Option End → Bool
is_end_of_sent None = false
is_end_of_sent (Some e) = was_sent e.outcome

-- how many of these frames of station a the table has as sent, where the first of them is frame n
abbrev pub sent_frames : Layout → List LogLine → ℕ → ℕ → List Ready → ℕ
sent_frames l lines a n [] = 0
sent_frames l lines a n (r ∷ rs) =
    (if is_end_of_sent (history n (events_of l a lines)).end then 1 else 0) + sent_frames l lines a (n + 1) rs

-- how many frames of these queues the table has as sent, where the first of them is that of station a
abbrev pub all_sent_frames : Layout → List LogLine → ℕ → List (List Ready) → ℕ
all_sent_frames l lines a [] = 0
all_sent_frames l lines a (q ∷ qs) = sent_frames l lines a 1 q + all_sent_frames l lines (a + 1) qs

-- no frame ends twice
abbrev pub EndOnce : Layout → List LogLine → Type 0
EndOnce l lines = (a n : ℕ) → count_by (λ e. is_some (end_at n e)) (events_of l a lines) ≤ 1

-- where no frame ends twice, the table has as many frames of outcome `sent` as the log has rows `sent`
abbrev pub SentFramesAreRows : Type 0
SentFramesAreRows =
    (plan : Plan) (lines : List LogLine) → IsLog lines → first_unplanned plan lines ≡ None → EndOnce plan.layout lines
    → all_sent_frames plan.layout lines 0 plan.queues ≡ kind_count is_sent_body lines
