-- The statuses of a call that reads nothing with a fault and that the outside doesn't hinder: a law of every answer of
-- the top call (profile).
use Rattle.std.specs.Prelude.{◌≡◌, ◌⊎◌, ℕ, List, Option, None, Some, IfSome}
use Rattle.log_meter.specs.declared.line.LogLine.{LogLine}
use Rattle.net_step.specs.Stops.{HasNoQuiet}
use Rattle.outside.specs.Files.{Files, Rose}
use Rattle.program_texts.specs.Texts.{name_of_state}
use Rattle.program_words.specs.Requests.{Asked, asked, Check, Slack, Plain, Run, Stop, Resume, Demo, Probe, Meter, Picture, Frames, Help, Version}
use Rattle.quiet_state.specs.declared.state.NetState.{NetState}
use Rattle.program_endings.specs.CheckpointFiles.{HasState}
use Rattle.program_endings.specs.FrameTables.{HasUnplanned}
use Rattle.program_endings.specs.Meters.{HasLog}
use Rattle.program_endings.specs.Probes.{HasNoAim}
use Rattle.program_endings.specs.Statuses.{HasStranger, IsDoneOrMemory, IsNetworkWith, IsPlannedWith}
use Rattle.program_endings.specs.StatusLaws.{OfAnswers}
use Rattle.run_endings.specs.WrittenNames.{AreNamesFree, RunOf, StateOf}

-- what a form reads, the layout, its loads, a log or a state, is held by these files without a fault, and no file that
-- it writes has the name of the layout or of a load
abbrev pub AreInputsSound : Option Asked → Files → Type 0
AreInputsSound (Some (Check layout)) files = IsNetworkWith layout (Some files) (λ network. Unit {0})
AreInputsSound (Some (Slack layout)) files = IsNetworkWith layout (Some files) (λ network. Unit {0})
AreInputsSound (Some (Plain layout prefix)) files =
    IsPlannedWith layout (Some files) (λ plan. AreNamesFree layout (RunOf prefix) plan.layout)
AreInputsSound (Some (Run layout prefix workers)) files =
    IsPlannedWith layout (Some files) (λ plan. AreNamesFree layout (RunOf prefix) plan.layout)
AreInputsSound (Some (Stop layout prefix from)) files =
    IsPlannedWith layout (Some files) (λ plan. AreNamesFree layout (StateOf prefix) plan.layout)
AreInputsSound (Some (Resume layout prefix)) files =
    IsPlannedWith layout (Some files) (λ plan.
    AreNamesFree layout (RunOf prefix) plan.layout
    × ((state : NetState) × HasState plan (name_of_state prefix) (Some files) state))
AreInputsSound (Some (Demo number workers)) files = Unit {0}
AreInputsSound (Some (Probe told layout from to taps)) files = IsPlannedWith layout (Some files) (λ plan. Unit {0})
AreInputsSound (Some (Meter log)) files = (lines : List LogLine) × HasLog log (Some files) lines
AreInputsSound (Some (Picture layout log from to)) files =
    IsNetworkWith layout (Some files) (λ network. Unit {0})
    × ((lines : List LogLine) × HasLog log (Some files) lines)
AreInputsSound (Some (Frames layout log)) files =
    IsPlannedWith layout (Some files) (λ plan. Unit {0}) × ((lines : List LogLine) × HasLog log (Some files) lines)
AreInputsSound (Some Help) files = Unit {0}
AreInputsSound (Some Version) files = Unit {0}
AreInputsSound None files = ⊥

-- what is asked for isn't there: a quiet half bit of a stop (status 9), a tap or the half bits of a probe (7), or what
-- a line of a log names, for a picture and for a table (11)
abbrev pub IsNotThere : Option Asked → Option Files → ℕ → Type 0
IsNotThere (Some (Stop layout prefix from)) held status =
    (status ≡ 9) × IsPlannedWith layout held (λ plan. HasNoQuiet plan from)
IsNotThere (Some (Probe told layout from to taps)) held status =
    (status ≡ 7) × IsNetworkWith layout held (λ network. HasNoAim network to taps)
IsNotThere (Some (Picture layout log from to)) held status =
    (status ≡ 11) × IsNetworkWith layout held (λ network. (n : ℕ) × HasStranger network log held n)
IsNotThere (Some (Frames layout log)) held status =
    (status ≡ 11) × IsPlannedWith layout held (λ plan. (n : ℕ) × HasUnplanned plan log held n)
IsNotThere _ held status = ⊥

-- where the store tells its files, what a form reads has no fault, and no read or write failed, the status is 0 or 6,
-- or it says that what is asked for isn't there
abbrev pub AreAnswersReliable : Type 0
AreAnswersReliable =
    OfAnswers (λ words entry exit status.
    ¬ Rose entry.reads exit.reads → ¬ Rose entry.writes exit.writes → ¬ Rose entry.faults exit.faults
    → IfSome entry.held (λ files.
    AreInputsSound (asked words) files → IsDoneOrMemory status ⊎ IsNotThere (asked words) entry.held status))
