-- How a call of the other forms may end, form by form (profile). The ends of probes stand in ProbeEnds.
use Rattle.std.specs.Prelude.{◌≡◌, ◌⊎◌, ℕ, List, None, Some, Ok}
use Rattle.net_step.specs.Stops.{HasNoQuiet, IsFirstQuiet}
use Rattle.quiet_state.specs.declared.state.NetState.{NetState}
use Rattle.run_checkpoint.specs.Faults.{line_of_state_with}
use Rattle.run_checkpoint.specs.declared.fault.StateFault.{StateFault}
use Rattle.frame_table.specs.Tables.{IsFrameTable}
use Rattle.frame_table.specs.Unplanned.{first_unplanned}
use Rattle.layout.specs.declared.lines.Layout.{Layout}
use Rattle.load_plan.specs.declared.plan.Plan.{Plan}
use Rattle.log_meter.specs.FigureTexts.{line_of_log_with}
use Rattle.log_meter.specs.declared.fault.LogFault.{LogFault}
use Rattle.log_meter.specs.declared.line.LogLine.{LogLine}
use Rattle.run_endings.specs.WrittenNames.{AreNamesFree, RunOf, StateOf}
use Rattle.run_endings.specs.Moments.{Moment}
use Rattle.program_endings.specs.CheckpointFiles.{HasState, IsStateFaulty}
use Rattle.program_endings.specs.FrameTables.{IsUnplannedEnd}
use Rattle.program_endings.specs.Meters.{HasLog, HasLogFault, IsMeterText}
use Rattle.program_endings.specs.StoppedRuns.{IsResumedSummary, IsStopLine, resumed_files, state_files}
use Rattle.run_picture.specs.Pictures.{picture_of}
use Rattle.run_picture.specs.Strangers.{first_stranger}
use Rattle.report_texts.specs.SlackTexts.{IsSlackText}
use Rattle.program_texts.specs.Texts.{line_of_no_quiet, line_of_stranger, name_of_state}
use Rattle.run_endings.specs.declared.endings.Ending.{Ending}
use Rattle.run_endings.specs.declared.endings.Ending.TheVariants as ending
use Rattle.run_endings.specs.Endings.{IsBeforeRun, IsEarly, IsFiledEnd, IsJudged, IsPlanned, IsTellingEnd, IsText, IsUnloadedSaid, IsUnreadSaid, Says}
use Rattle.program_endings.specs.Demos.{IsDemoText}

-- what is said of a run that has no quiet half bit at or after the one that was asked for
abbrev pub IsUnquietEnd : Moment → Moment → Ending → Type 0
IsUnquietEnd before after ending.Unquiet = Says line_of_no_quiet before after
IsUnquietEnd before after _ = ⊥

-- the layout and its loads have no fault, the file of the state has the name of none of them, the run has no quiet half
-- bit at or after this one, and that was said
pub record IsUnstopped (layout prefix : List ℕ) (from : ℕ) (before after : Moment) (e : Ending) : Type 0 where
  pub plan : Plan
  pub planned : IsPlanned layout before.held plan
  pub free : AreNamesFree layout (StateOf prefix) plan.layout
  pub never : HasNoQuiet plan from
  pub said : IsUnquietEnd before after e
  pub held : after.held ≡ before.held

-- the layout and its loads have no fault, the file of the state has the name of none of them, and the network was run
-- to the first quiet half bit at or after this one
pub record HasStopped (layout prefix : List ℕ) (from : ℕ) (before after : Moment) (e : Ending) : Type 0 where
  pub plan : Plan
  pub planned : IsPlanned layout before.held plan
  pub free : AreNamesFree layout (StateOf prefix) plan.layout
  pub t : ℕ
  pub first : IsFirstQuiet plan from t
  pub filed : IsFiledEnd (state_files prefix plan t) (IsStopLine t) before after e

-- the end of the form stop LAYOUT PREFIX FROM
abbrev pub IsStopEnd : List ℕ → List ℕ → ℕ → Moment → Moment → Ending → Type 0
IsStopEnd layout prefix from before after e =
    IsBeforeRun layout (StateOf prefix) before after e ⊎ IsUnstopped layout prefix from before after e
    ⊎ HasStopped layout prefix from before after e

-- the file of a state has a fault, and its line was said
abbrev pub IsStateFaultSaid : Plan → List ℕ → Moment → Moment → Type 0
IsStateFaultSaid plan name before after =
    (fault : StateFault) × IsStateFaulty plan name before.held fault × Says (line_of_state_with fault) before after

-- the call ended before a state of a plan was read from this file
abbrev pub IsUnstated : Plan → List ℕ → Moment → Moment → Ending → Type 0
IsUnstated plan name before after ending.State = IsStateFaultSaid plan name before after
IsUnstated plan name before after ending.Read = IsUnreadSaid name before after
IsUnstated plan name before after ending.Memory = after.written ≡ before.written
IsUnstated plan name before after _ = ⊥

-- the layout and its loads have no fault, no file of the run has the name of one of them, and the call ended before a
-- state of the run was read
pub record IsUnresumed (layout prefix : List ℕ) (before after : Moment) (e : Ending) : Type 0 where
  pub plan : Plan
  pub planned : IsPlanned layout before.held plan
  pub free : AreNamesFree layout (RunOf prefix) plan.layout
  pub said : IsUnstated plan (name_of_state prefix) before after e
  pub held : after.held ≡ before.held

-- the layout, its loads and the state of its run have no fault, no file of the run has the name of the layout or of a
-- load, and the network went on from that state
pub record HasResumed (layout prefix : List ℕ) (before after : Moment) (e : Ending) : Type 0 where
  pub plan : Plan
  pub planned : IsPlanned layout before.held plan
  pub free : AreNamesFree layout (RunOf prefix) plan.layout
  pub state : NetState
  pub read : HasState plan (name_of_state prefix) before.held state
  pub filed : IsFiledEnd (resumed_files prefix plan state) (IsResumedSummary plan state) before after e

-- the end of the form resume LAYOUT PREFIX
abbrev pub IsResumeEnd : List ℕ → List ℕ → Moment → Moment → Ending → Type 0
IsResumeEnd layout prefix before after e =
    IsBeforeRun layout (RunOf prefix) before after e ⊎ IsUnresumed layout prefix before after e
    ⊎ HasResumed layout prefix before after e

-- the end of the form slack LAYOUT: the text of the slacks
abbrev pub IsSlackEnd : List ℕ → Moment → Moment → Ending → Type 0
IsSlackEnd layout before after e = IsTellingEnd IsSlackText layout before after e

-- the log has a fault, and its line was said
abbrev pub IsLogFaultSaid : List ℕ → Moment → Moment → Type 0
IsLogFaultSaid log before after =
    (fault : LogFault) × HasLogFault log before.held fault × Says (line_of_log_with fault) before after

-- the call ended before a log without fault was read
abbrev pub IsUnmetered : List ℕ → Moment → Moment → Ending → Type 0
IsUnmetered log before after ending.Log = IsLogFaultSaid log before after
IsUnmetered log before after ending.Read = IsUnreadSaid log before after
IsUnmetered log before after ending.Memory = after.written ≡ before.written
IsUnmetered log before after _ = ⊥

-- the text of a log's figures was written, or a front of it
pub record IsMetered (log : List ℕ) (before after : Moment) (e : Ending) : Type 0 where
  pub text : List ℕ
  pub right : IsMeterText log before.held text
  pub written : IsText text before after e

-- the end of the form meter LOG: it writes no file
abbrev pub IsMeterEnd : List ℕ → Moment → Moment → Ending → Type 0
IsMeterEnd log before after e =
    (after.held ≡ before.held) × (IsUnmetered log before after e ⊎ IsMetered log before after e)

-- the layout has no fault, and the call ended before a log without fault was read
pub record IsUnlogged (layout log : List ℕ) (before after : Moment) (e : Ending) : Type 0 where
  pub network : Layout
  pub judged : IsJudged layout before.held (Ok network)
  pub said : IsUnmetered log before after e

-- what is said of the first of these lines, from 1, that names what a network lacks: its line, and nothing without
-- memory
abbrev pub IsStrangeEnd : Layout → List LogLine → Moment → Moment → Ending → Type 0
IsStrangeEnd network lines before after ending.Stranger =
    (n : ℕ) × (first_stranger network lines ≡ Some n) × Says (line_of_stranger n) before after
IsStrangeEnd network lines before after ending.Memory = after.written ≡ before.written
IsStrangeEnd network lines before after _ = ⊥

-- the picture of what these lines, none of which names what a network lacks, tell of the half bits from one on and
-- before another was written, or a front of it
pub record ArePictured (network : Layout) (lines : List LogLine) (from to : ℕ) (before after : Moment) (e : Ending)
    : Type 0 where
  pub known : first_stranger network lines ≡ None
  pub text : IsText (picture_of network lines from to) before after e

-- these lines were drawn, or one of them names what the network lacks, or there was no memory
abbrev pub IsDrawnEnd : Layout → List LogLine → ℕ → ℕ → Moment → Moment → Ending → Type 0
IsDrawnEnd network lines from to before after e =
    IsStrangeEnd network lines before after e ⊎ ArePictured network lines from to before after e

-- the layout and the log have no fault, and the log's lines were drawn, or one names what the layout lacks
pub record IsDrawn (layout log : List ℕ) (from to : ℕ) (before after : Moment) (e : Ending) : Type 0 where
  pub network : Layout
  pub judged : IsJudged layout before.held (Ok network)
  pub lines : List LogLine
  pub read : HasLog log before.held lines
  pub drawn : IsDrawnEnd network lines from to before after e

-- the end of the form picture LAYOUT LOG FROM TO: it writes no file
abbrev pub IsPictureEnd : List ℕ → List ℕ → ℕ → ℕ → Moment → Moment → Ending → Type 0
IsPictureEnd layout log from to before after e =
    (after.held ≡ before.held)
    × (IsEarly layout before after e ⊎ IsUnlogged layout log before after e
    ⊎ IsDrawn layout log from to before after e)

-- the layout has no fault, and the call ended before its loads, without fault, were read
pub record IsUnqueued (layout : List ℕ) (before after : Moment) (e : Ending) : Type 0 where
  pub network : Layout
  pub judged : IsJudged layout before.held (Ok network)
  pub said : IsUnloadedSaid network before after e

-- the layout and its loads have no fault, and the call ended before a log without fault was read
pub record IsUntabled (layout log : List ℕ) (before after : Moment) (e : Ending) : Type 0 where
  pub plan : Plan
  pub planned : IsPlanned layout before.held plan
  pub said : IsUnmetered log before after e

-- the table of a plan and of these lines, none of which names what the plan lacks, was written, or a front of it
pub record AreTabled (plan : Plan) (lines : List LogLine) (before after : Moment) (e : Ending) : Type 0 where
  pub known : first_unplanned plan lines ≡ None
  pub table : List ℕ
  pub right : IsFrameTable plan lines table
  pub text : IsText table before after e

-- the table of a plan and of these lines was written, or one of them names what the plan lacks, or there was no memory
abbrev pub IsTableEnd : Plan → List LogLine → Moment → Moment → Ending → Type 0
IsTableEnd plan lines before after e = IsUnplannedEnd plan lines before after e ⊎ AreTabled plan lines before after e

-- the layout, its loads and the log have no fault, and the table of the plan and of the log's lines was written, or a
-- line names what the plan lacks
pub record IsTabled (layout log : List ℕ) (before after : Moment) (e : Ending) : Type 0 where
  pub plan : Plan
  pub planned : IsPlanned layout before.held plan
  pub lines : List LogLine
  pub read : HasLog log before.held lines
  pub tabled : IsTableEnd plan lines before after e

-- the end of the form frames LAYOUT LOG: it writes no file
abbrev pub IsFramesEnd : List ℕ → List ℕ → Moment → Moment → Ending → Type 0
IsFramesEnd layout log before after e =
    (after.held ≡ before.held)
    × (IsEarly layout before after e ⊎ IsUnqueued layout before after e ⊎ IsUntabled layout log before after e
    ⊎ IsTabled layout log before after e)

-- the text of demo of a number was written, or a front of it, or there was no memory for it
abbrev pub IsDemoTold : ℕ → Moment → Moment → Ending → Type 0
IsDemoTold number before after e =
    ((e ≡ ending.Memory) × (after.written ≡ before.written))
    ⊎ ((text : List ℕ) × IsDemoText number text × IsText text before after e)

-- the end of the form demo NUMBER WORKERS: its text; it reads and writes no file
abbrev pub IsDemoEnd : ℕ → Moment → Moment → Ending → Type 0
IsDemoEnd number before after e = IsDemoTold number before after e × (after.held ≡ before.held)
