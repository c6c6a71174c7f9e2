-- What check, and a form that runs a network, leave where they are done (profile).
use Rattle.std.specs.Prelude.{◌≡◌, ◌⊎◌, ℕ, List, Option, Some, Ok}
use Rattle.layout.specs.declared.lines.Layout.{Layout}
use Rattle.load_plan.specs.declared.plan.Plan.{Plan}
use Rattle.run_endings.specs.Endings.{IsJudged, IsPlanned}
use Rattle.run_endings.specs.Moments.{Moment}
use Rattle.program_words.specs.Requests.{Asked, Check, Plain, Run, Help, Version}
use Rattle.program_texts.specs.declared.texts.TheConstants.{HELP, VERSION}
use Rattle.run_endings.specs.Runs.{IsSummary, run_files}
use Rattle.program_texts.specs.Verdicts.{IsVerdictLine}
use Rattle.run_endings.specs.Writing.{put_all, added}

-- the words are of a form that writes the files of a run, plain LAYOUT PREFIX or run LAYOUT PREFIX WORKERS, with these
-- two names
abbrev pub AskForFiles : Option Asked → List ℕ → List ℕ → Type 0
AskForFiles o layout prefix =
    (o ≡ Some (Plain layout prefix)) ⊎ ((workers : ℕ) × (o ≡ Some (Run layout prefix workers)))

-- if the words are of a form that writes the files of a run, this holds of the two names
abbrev pub IfFiles : Option Asked → (List ℕ → List ℕ → Type 0) → Type 0
IfFiles o P = (layout prefix : List ℕ) → AskForFiles o layout prefix → P layout prefix

-- a run is done: the layout and the loads held at entry have no fault, the files of their run are whole, every other
-- file is as at entry, and the sink got the run's summary
pub record IsRunDone (layout prefix : List ℕ) (entry exit : Moment) : Type 0 where
  pub plan : Plan
  pub planned : IsPlanned layout entry.held plan
  pub files : exit.held ≡ put_all (run_files prefix plan) entry.held
  pub summary : List ℕ
  pub summed : IsSummary plan summary
  pub written : exit.written ≡ added summary entry.written

-- a form that only tells of a layout is done: the layout held at entry has no fault, the sink got a text that tells
-- this of its network, and every file is as at entry
pub record IsTellingDone (Tells : Layout → List ℕ → Type 0) (layout : List ℕ) (entry exit : Moment) : Type 0 where
  pub network : Layout
  pub judged : IsJudged layout entry.held (Ok network)
  pub text : List ℕ
  pub right : Tells network text
  pub written : exit.written ≡ added text entry.written
  pub held : exit.held ≡ entry.held

-- a check is done: the sink got the line of the layout's path verdict
abbrev pub IsCheckDone : List ℕ → Moment → Moment → Type 0
IsCheckDone layout entry exit = IsTellingDone IsVerdictLine layout entry exit

-- a fixed text is told: the sink got it, and every file is as at entry
pub record IsTextDone (text : List ℕ) (entry exit : Moment) : Type 0 where
  pub written : exit.written ≡ added text entry.written
  pub held : exit.held ≡ entry.held

-- what these words ask for is done, where they aren't of another form; words of no form ask for nothing that could be
abbrev pub IsRunFormDone : Option Asked → Moment → Moment → Type 0
IsRunFormDone (Some (Check layout)) entry exit = IsCheckDone layout entry exit
IsRunFormDone (Some (Plain layout prefix)) entry exit = IsRunDone layout prefix entry exit
IsRunFormDone (Some Help) entry exit = IsTextDone HELP.now entry exit
IsRunFormDone (Some Version) entry exit = IsTextDone VERSION.now entry exit
IsRunFormDone _ entry exit = ⊥
