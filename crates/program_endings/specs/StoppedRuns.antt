-- What a run leaves that stopped, or went on from where one had stopped (profile).
use Rattle.std.specs.Prelude.{◌≡◌, ℕ, List, [], ◌∷◌}
use Rattle.load_plan.specs.declared.plan.Plan.{Plan}
use Rattle.outside.specs.declared.file.File.{File}
use Rattle.quiet_state.specs.Resumed.{captures_from, rows_from, state_at}
use Rattle.quiet_state.specs.declared.state.NetState.{NetState}
use Rattle.run_checkpoint.specs.States.{text_of_state}
use Rattle.program_texts.specs.Texts.{line_of_stopped, name_of_state}
use Rattle.run_endings.specs.Runs.{IsSummaryOver, output_files}

-- the files of a run that went on from a state
abbrev pub resumed_files : List ℕ → Plan → NetState → List File
resumed_files prefix plan state = output_files prefix plan (rows_from plan state) (captures_from plan state)

-- the file of a run that stopped before half bit t: the text of the plan's state then
abbrev pub state_files : List ℕ → Plan → ℕ → List File
state_files prefix plan t =
    record { name = name_of_state prefix; octets = text_of_state plan (state_at plan t) } ∷ []

-- the summary of a run that went on from a state
abbrev pub IsResumedSummary : Plan → NetState → List ℕ → Type 0
IsResumedSummary plan state text = IsSummaryOver plan (rows_from plan state) text

-- what is said of a run that stopped before half bit t
abbrev pub IsStopLine : ℕ → List ℕ → Type 0
IsStopLine t text = text ≡ line_of_stopped t
