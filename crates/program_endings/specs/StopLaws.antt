-- What each status says of the forms stop LAYOUT PREFIX FROM and resume LAYOUT PREFIX: laws of every answer (profile).
use Rattle.std.specs.Prelude.{◌≡◌, ◌⊎◌, ℕ, List, Some, IfSome}
use Rattle.load_plan.specs.declared.plan.Plan.{Plan}
use Rattle.outside.specs.Files.{IsAbsent, Rose}
use Rattle.outside.specs.declared.file.File.{File}
use Rattle.program_texts.specs.Texts.{line_of_no_quiet, name_of_state}
use Rattle.program_words.specs.Requests.{asked, Resume, Stop}
use Rattle.quiet_state.specs.declared.state.NetState.{NetState}
use Rattle.run_checkpoint.specs.declared.fault.StateFault.{StateFault}
use Rattle.net_step.specs.Stops.{HasNoQuiet, IsFirstQuiet}
use Rattle.program_endings.specs.CheckpointFiles.{HasState, IsStateFaulty}
use Rattle.program_endings.specs.Answers.{IsAnswer}
use Rattle.run_endings.specs.Endings.{IsPlanned, Says}
use Rattle.program_endings.specs.Endings.{IsStateFaultSaid}
use Rattle.run_endings.specs.Moments.{Moment}
use Rattle.program_endings.specs.StoppedRuns.{IsResumedSummary, IsStopLine, resumed_files, state_files}
use Rattle.program_endings.specs.StatusLaws.{OfAnswers}
use Rattle.program_endings.specs.Statuses.{IfResume, IfStop, IsDoneOrMemory, IsFaultStatus, IsPlannedWith, IsResumeWith, IsStopWith, IsUnbegun, IsUnreadOrMemory}
use Rattle.run_endings.specs.Done.{IsRunDone}
use Rattle.run_endings.specs.Writing.{IsBrokenAmong, IsCutShort, put_all}
use Rattle.run_endings.specs.WrittenNames.{AreNamesFree, RunOf, StateOf}

-- with status 9 the layout and the loads held at entry have no fault, their run has no quiet half bit at or after the
-- one that was asked for, and that was said
abbrev pub AreUnquietSaid : Type 0
AreUnquietSaid =
    OfAnswers (λ words entry exit status.
    status ≡ 9
    → IsStopWith (asked words) (λ layout from.
    IsPlannedWith layout entry.held (λ plan. HasNoQuiet plan from × Says line_of_no_quiet entry exit)))

-- where the layout and the loads held at entry have no fault, the file of the state has the name of none of them, and
-- their run has no quiet half bit at or after the one that was asked for the status is 9, but for a failed read and
-- want of memory
abbrev pub DoUnquietDecide : Type 0
DoUnquietDecide =
    OfAnswers (λ words entry exit status.
    IfStop (asked words) (λ layout prefix from.
    IfSome entry.held (λ files.
    IsPlannedWith layout (Some files) (λ plan.
    AreNamesFree layout (StateOf prefix) plan.layout × HasNoQuiet plan from)
    → IsFaultStatus 9 status entry.reads exit.reads)))

-- with status 10 the layout and the loads held at entry have no fault, the state of the prefix has one, and its line
-- was said
abbrev pub AreStateFaultsSaid : Type 0
AreStateFaultsSaid =
    OfAnswers (λ words entry exit status.
    status ≡ 10
    → IsResumeWith (asked words) (λ layout prefix.
    IsPlannedWith layout entry.held (λ plan. IsStateFaultSaid plan (name_of_state prefix) entry exit)))

-- where the layout and the loads held at entry have no fault, no file to be written has the name of one of them, and
-- the state of the prefix has a fault the status is 10, but for a failed read and want of memory
abbrev pub DoStateFaultsDecide : Type 0
DoStateFaultsDecide =
    OfAnswers (λ words entry exit status.
    IfResume (asked words) (λ layout prefix.
    IfSome entry.held (λ files.
    (fault : StateFault)
    → IsPlannedWith layout (Some files) (λ plan.
    AreNamesFree layout (RunOf prefix) plan.layout × IsStateFaulty plan (name_of_state prefix) (Some files) fault)
    → IsFaultStatus 10 status entry.reads exit.reads)))

-- where the layout and the loads held at entry have no fault, no file to be written has the name of one of them, and
-- the state of the prefix isn't held the status is 4, but for want of memory
abbrev pub DoAbsentStatesDecide : Type 0
DoAbsentStatesDecide =
    OfAnswers (λ words entry exit status.
    IfResume (asked words) (λ layout prefix.
    IfSome entry.held (λ files.
    IsPlannedWith layout (Some files) (λ plan.
    AreNamesFree layout (RunOf prefix) plan.layout × IsAbsent (name_of_state prefix) (Some files))
    → IsUnreadOrMemory status)))

-- these files are whole, and the sink got a front of a text that is right
pub record IsTextCut (files : List File) (IsRight : List ℕ → Type 0) (entry exit : Moment) : Type 0 where
  pub held : exit.held ≡ put_all files entry.held
  pub text : List ℕ
  pub right : IsRight text
  pub cut : IsCutShort text entry.written exit.written

-- of these files those before one are whole, that one is as it was or a front of its text, every other file is as at
-- entry, and nothing was said; or all are whole, and the sink got a front of a text that is right
abbrev pub IsWritingBroken : List File → (List ℕ → Type 0) → Moment → Moment → Type 0
IsWritingBroken files IsRight entry exit =
    (IsBrokenAmong files entry.held exit.held × (exit.written ≡ entry.written))
    ⊎ IsTextCut files IsRight entry exit

-- a stop is broken off: the layout and the loads held at entry have no fault, and the file of the state is as it was,
-- or a front of its text, or whole with a front of the line of its half bit on the sink
pub record IsStopBroken (layout prefix : List ℕ) (from : ℕ) (entry exit : Moment) : Type 0 where
  pub plan : Plan
  pub planned : IsPlanned layout entry.held plan
  pub t : ℕ
  pub first : IsFirstQuiet plan from t
  pub left : IsWritingBroken (state_files prefix plan t) (IsStopLine t) entry exit

-- a resume is broken off: the layout, the loads and the state held at entry have no fault, and the files of the run
-- that goes on from it are left so
pub record IsResumeBroken (layout prefix : List ℕ) (entry exit : Moment) : Type 0 where
  pub plan : Plan
  pub planned : IsPlanned layout entry.held plan
  pub state : NetState
  pub read : HasState plan (name_of_state prefix) entry.held state
  pub left : IsWritingBroken (resumed_files prefix plan state) (IsResumedSummary plan state) entry exit

-- with status 5 a stop or a resume is broken off
abbrev pub AreStopsBroken : Type 0
AreStopsBroken =
    OfAnswers (λ words entry exit status.
    status ≡ 5
    → IfStop (asked words) (λ layout prefix from. IsStopBroken layout prefix from entry exit)
    × IfResume (asked words) (λ layout prefix. IsResumeBroken layout prefix entry exit))

-- with status 6 a stop or a resume was not begun, or is broken off
abbrev pub AreStopsRefused : Type 0
AreStopsRefused =
    OfAnswers (λ words entry exit status.
    status ≡ 6
    → IfStop (asked words) (λ layout prefix from.
    IsUnbegun entry exit ⊎ IsStopBroken layout prefix from entry exit)
    × IfResume (asked words) (λ layout prefix. IsUnbegun entry exit ⊎ IsResumeBroken layout prefix entry exit))

-- with status 5 of a stop or a resume the sink is as at entry where no write to it failed
abbrev pub AreStopsSilent : Type 0
AreStopsSilent =
    OfAnswers (λ words entry exit status.
    status ≡ 5 → ¬ Rose entry.faults exit.faults
    → IfStop (asked words) (λ layout prefix from. exit.written ≡ entry.written)
    × IfResume (asked words) (λ layout prefix. exit.written ≡ entry.written))

-- with status 5 of a stop or a resume all its files are whole where no write to the store failed
abbrev pub AreStopFilesWhole : Type 0
AreStopFilesWhole =
    OfAnswers (λ words entry exit status.
    status ≡ 5 → ¬ Rose entry.writes exit.writes
    → IfStop (asked words) (λ layout prefix from.
    IsPlannedWith layout entry.held (λ plan.
    (t : ℕ) × IsFirstQuiet plan from t × (exit.held ≡ put_all (state_files prefix plan t) entry.held)))
    × IfResume (asked words) (λ layout prefix.
    IsPlannedWith layout entry.held (λ plan.
    (state : NetState) × HasState plan (name_of_state prefix) entry.held state
    × (exit.held ≡ put_all (resumed_files prefix plan state) entry.held))))

-- a stop of a layout and loads that are held without fault, whose run has a quiet half bit at or after the one that was
-- asked for, and a resume of such ones from a state that is held without fault, have the status 0 or 6 where no file to
-- be written has the name of the layout or of a load, and no read and no write failed
abbrev pub AreStopsComplete : Type 0
AreStopsComplete =
    OfAnswers (λ words entry exit status.
    ¬ Rose entry.reads exit.reads → ¬ Rose entry.writes exit.writes → ¬ Rose entry.faults exit.faults
    → IfStop (asked words) (λ layout prefix from.
    IfSome entry.held (λ files.
    IsPlannedWith layout (Some files) (λ plan.
    AreNamesFree layout (StateOf prefix) plan.layout × ((t : ℕ) × IsFirstQuiet plan from t)) → IsDoneOrMemory status))
    × IfResume (asked words) (λ layout prefix.
    IfSome entry.held (λ files.
    IsPlannedWith layout (Some files) (λ plan.
    AreNamesFree layout (RunOf prefix) plan.layout
    × ((state : NetState) × HasState plan (name_of_state prefix) (Some files) state))
    → IsDoneOrMemory status)))

-- a run that stopped and then went on, with the same layout and the same loads, which a store holds that tells its
-- files, leaves what the run that never stopped leaves
abbrev pub AreStoppedRunsWhole : Type 0
AreStoppedRunsWhole =
    (stop resume : List (List ℕ)) (layout prefix : List ℕ) (from : ℕ) (a b c d : Moment) (plan : Plan)
    → asked stop ≡ Some (Stop layout prefix from) → asked resume ≡ Some (Resume layout prefix)
    → IsAnswer stop a b 0 → IsAnswer resume c d 0
    → IfSome a.held (λ files.
    IsPlanned layout (Some files) plan → c.held ≡ b.held → IsPlanned layout b.held plan
    → IsRunDone layout prefix c d)
