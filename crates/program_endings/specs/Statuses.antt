-- What a status says of the moments of entry and exit (profile).
use Rattle.std.specs.Prelude.{◌≡◌, ◌⊎◌, ℕ, List, Option, None, Some, Ok}
use Rattle.capture_file.specs.declared.entries.Record.{Record}
use Rattle.capture_file.specs.declared.fault.CaptureFault.{CaptureFault}
use Rattle.outside.specs.Files.{Files, Rose}
use Rattle.frame_table.specs.Tables.{IsFrameTable}
use Rattle.frame_table.specs.Unplanned.{first_unplanned}
use Rattle.layout.specs.declared.lines.Layout.{Layout}
use Rattle.load_files.specs.Loaded.{IsLoaded, IsFirstAbsent, Faulty, Whole}
use Rattle.load_plan.specs.declared.plan.Plan.{Plan}
use Rattle.log_meter.specs.declared.line.LogLine.{LogLine}
use Rattle.program_endings.specs.CheckpointFiles.{HasState}
use Rattle.program_endings.specs.Demos.{IsDemoText}
use Rattle.run_endings.specs.Endings.{IsJudged, IsLoadUnreadSaid, IsPlanned, IsUnreadSaid, Says}
use Rattle.program_endings.specs.ProbeEnds.{IsProbeText}
use Rattle.program_endings.specs.FrameTables.{HasUnplanned}
use Rattle.program_endings.specs.Meters.{HasLog, IsMeterText}
use Rattle.run_endings.specs.Moments.{Moment}
use Rattle.program_endings.specs.Probes.{IsMissLine}
use Rattle.program_words.specs.Requests.{Asked, asked, Check, Slack, Plain, Run, Stop, Resume, Demo, Probe, Meter, Picture, Frames, Help, Version}
use Rattle.program_words.specs.declared.words.Report.{Report}
use Rattle.quiet_state.specs.Resumed.{state_at}
use Rattle.quiet_state.specs.declared.state.NetState.{NetState}
use Rattle.run_checkpoint.specs.States.{text_of_state}
use Rattle.net_step.specs.Stops.{IsFirstQuiet}
use Rattle.run_picture.specs.Pictures.{picture_of}
use Rattle.run_picture.specs.Strangers.{first_stranger}
use Rattle.run_endings.specs.WrittenNames.{AreNamesFree, NoFile, RunOf, StateOf, ToWrite, first_taken_name}
use Rattle.program_endings.specs.StoppedRuns.{IsResumedSummary, resumed_files}
use Rattle.run_endings.specs.Runs.{IsSummary, run_files}
use Rattle.report_texts.specs.SlackTexts.{IsSlackText}
use Rattle.program_texts.specs.Texts.{line_of_output_fault, line_of_stopped, line_of_stranger, line_of_unplanned, name_of_state}
use Rattle.program_texts.specs.Verdicts.{IsVerdictLine}
use Rattle.run_endings.specs.Writing.{put_all, put_file, added, IsBrokenAmong, IsCutShort}
use Rattle.program_texts.specs.declared.texts.TheConstants.{HELP, VERSION}
use Rattle.run_endings.specs.Done.{AskForFiles, IfFiles, IsCheckDone, IsRunDone, IsTellingDone, IsTextDone}

-- if the words are check LAYOUT, this holds of the name
abbrev pub IfCheck : Option Asked → (List ℕ → Type 0) → Type 0
IfCheck o P = (layout : List ℕ) → o ≡ Some (Check layout) → P layout

-- if the words are slack LAYOUT, this holds of the name
abbrev pub IfSlack : Option Asked → (List ℕ → Type 0) → Type 0
IfSlack o P = (layout : List ℕ) → o ≡ Some (Slack layout) → P layout

-- if the words are of a form that only tells of a layout, this holds of what its text tells and of the layout's name
abbrev pub IfTelling : Option Asked → ((Layout → List ℕ → Type 0) → List ℕ → Type 0) → Type 0
IfTelling o P = IfCheck o (P IsVerdictLine) × IfSlack o (P IsSlackText)

-- if the words are stop LAYOUT PREFIX FROM, this holds of the two names and of the half bit
abbrev pub IfStop : Option Asked → (List ℕ → List ℕ → ℕ → Type 0) → Type 0
IfStop o P = (layout prefix : List ℕ) (from : ℕ) → o ≡ Some (Stop layout prefix from) → P layout prefix from

-- if the words are resume LAYOUT PREFIX, this holds of the two names
abbrev pub IfResume : Option Asked → (List ℕ → List ℕ → Type 0) → Type 0
IfResume o P = (layout prefix : List ℕ) → o ≡ Some (Resume layout prefix) → P layout prefix

-- the words are stop LAYOUT PREFIX FROM, and this holds of the layout's name and of the half bit
abbrev pub IsStopWith : Option Asked → (List ℕ → ℕ → Type 0) → Type 0
IsStopWith o P =
    (layout : List ℕ) × (prefix : List ℕ) × (from : ℕ) × (o ≡ Some (Stop layout prefix from)) × P layout from

-- the words are resume LAYOUT PREFIX, and this holds of the two names
abbrev pub IsResumeWith : Option Asked → (List ℕ → List ℕ → Type 0) → Type 0
IsResumeWith o P =
    (layout : List ℕ) × (prefix : List ℕ) × (o ≡ Some (Resume layout prefix)) × P layout prefix

-- if the words are demo NUMBER WORKERS, this holds of the number
abbrev pub IfDemo : Option Asked → (ℕ → Type 0) → Type 0
IfDemo o P = (number workers : ℕ) → o ≡ Some (Demo number workers) → P number

-- if the words are of a form that reports on half bits of a run, this holds of the report, of the layout's name, of the
-- two half bits and of the words for taps
abbrev pub IfProbe : Option Asked → (Report → List ℕ → ℕ → ℕ → List (List ℕ) → Type 0) → Type 0
IfProbe o P =
    (told : Report) (layout : List ℕ) (from to : ℕ) (taps : List (List ℕ)) → o ≡ Some (Probe told layout from to taps)
    → P told layout from to taps

-- if the words are meter LOG, this holds of the name
abbrev pub IfMeter : Option Asked → (List ℕ → Type 0) → Type 0
IfMeter o P = (log : List ℕ) → o ≡ Some (Meter log) → P log

-- if the words are picture LAYOUT LOG FROM TO, this holds of the two names and of the two half bits
abbrev pub IfPicture : Option Asked → (List ℕ → List ℕ → ℕ → ℕ → Type 0) → Type 0
IfPicture o P =
    (layout log : List ℕ) (from to : ℕ) → o ≡ Some (Picture layout log from to) → P layout log from to

-- if the words are frames LAYOUT LOG, this holds of the two names
abbrev pub IfFrames : Option Asked → (List ℕ → List ℕ → Type 0) → Type 0
IfFrames o P = (layout log : List ℕ) → o ≡ Some (Frames layout log) → P layout log

-- if the words are of a form with a layout, this holds of its name
abbrev pub IfLayout : Option Asked → (List ℕ → Type 0) → Type 0
IfLayout o P =
    IfTelling o (λ Tells layout. P layout) × IfFiles o (λ layout prefix. P layout)
    × IfStop o (λ layout prefix from. P layout) × IfResume o (λ layout prefix. P layout)
    × IfProbe o (λ told layout from to taps. P layout) × IfPicture o (λ layout log from to. P layout)
    × IfFrames o (λ layout log. P layout)

-- if the words are of a form that reads the loads of a layout as soon as it has no fault and no file to be written has
-- its name or that of a load, this holds of the layout's name and of what is written
abbrev pub IfLoaded : Option Asked → (List ℕ → ToWrite → Type 0) → Type 0
IfLoaded o P =
    IfFiles o (λ layout prefix. P layout (RunOf prefix)) × IfStop o (λ layout prefix from. P layout (StateOf prefix))
    × IfResume o (λ layout prefix. P layout (RunOf prefix)) × IfFrames o (λ layout log. P layout NoFile)

-- if the words ask for a fixed text, this holds of it
abbrev pub IfText : Option Asked → (List ℕ → Type 0) → Type 0
IfText o P = (o ≡ Some Help → P HELP.now) × (o ≡ Some Version → P VERSION.now)

-- the words name a layout, and this holds of its name
abbrev pub IsLayoutWith : Option Asked → (List ℕ → Type 0) → Type 0
IsLayoutWith (Some (Check layout)) P = P layout
IsLayoutWith (Some (Slack layout)) P = P layout
IsLayoutWith (Some (Plain layout prefix)) P = P layout
IsLayoutWith (Some (Run layout prefix workers)) P = P layout
IsLayoutWith (Some (Stop layout prefix from)) P = P layout
IsLayoutWith (Some (Resume layout prefix)) P = P layout
IsLayoutWith (Some (Demo number workers)) P = ⊥
IsLayoutWith (Some (Probe told layout from to taps)) P = P layout
IsLayoutWith (Some (Meter log)) P = ⊥
IsLayoutWith (Some (Picture layout log from to)) P = P layout
IsLayoutWith (Some (Frames layout log)) P = P layout
IsLayoutWith (Some Help) P = ⊥
IsLayoutWith (Some Version) P = ⊥
IsLayoutWith None P = ⊥

-- the words are of a form that reads the loads of a layout, and this holds of the layout's name
abbrev pub IsLoadedWith : Option Asked → (List ℕ → Type 0) → Type 0
IsLoadedWith (Some (Check layout)) P = ⊥
IsLoadedWith (Some (Slack layout)) P = ⊥
IsLoadedWith (Some (Plain layout prefix)) P = P layout
IsLoadedWith (Some (Run layout prefix workers)) P = P layout
IsLoadedWith (Some (Stop layout prefix from)) P = P layout
IsLoadedWith (Some (Resume layout prefix)) P = P layout
IsLoadedWith (Some (Demo number workers)) P = ⊥
IsLoadedWith (Some (Probe told layout from to taps)) P = P layout
IsLoadedWith (Some (Meter log)) P = ⊥
IsLoadedWith (Some (Picture layout log from to)) P = ⊥
IsLoadedWith (Some (Frames layout log)) P = P layout
IsLoadedWith (Some Help) P = ⊥
IsLoadedWith (Some Version) P = ⊥
IsLoadedWith None P = ⊥

-- the words are of a form that writes files, and this holds of the layout's name and of what is written
abbrev pub IsWritingWith : Option Asked → (List ℕ → ToWrite → Type 0) → Type 0
IsWritingWith (Some (Check layout)) P = ⊥
IsWritingWith (Some (Slack layout)) P = ⊥
IsWritingWith (Some (Plain layout prefix)) P = P layout (RunOf prefix)
IsWritingWith (Some (Run layout prefix workers)) P = P layout (RunOf prefix)
IsWritingWith (Some (Stop layout prefix from)) P = P layout (StateOf prefix)
IsWritingWith (Some (Resume layout prefix)) P = P layout (RunOf prefix)
IsWritingWith (Some (Demo number workers)) P = ⊥
IsWritingWith (Some (Probe told layout from to taps)) P = ⊥
IsWritingWith (Some (Meter log)) P = ⊥
IsWritingWith (Some (Picture layout log from to)) P = ⊥
IsWritingWith (Some (Frames layout log)) P = ⊥
IsWritingWith (Some Help) P = ⊥
IsWritingWith (Some Version) P = ⊥
IsWritingWith None P = ⊥

-- the words are probe or waves with LAYOUT FROM TO TAP .., or page LAYOUT FROM TO, and this holds of the report, of the
-- name, of the end and of the words for taps
abbrev pub IsProbeWith : Option Asked → (Report → List ℕ → ℕ → List (List ℕ) → Type 0) → Type 0
IsProbeWith (Some (Check layout)) P = ⊥
IsProbeWith (Some (Slack layout)) P = ⊥
IsProbeWith (Some (Plain layout prefix)) P = ⊥
IsProbeWith (Some (Run layout prefix workers)) P = ⊥
IsProbeWith (Some (Stop layout prefix from)) P = ⊥
IsProbeWith (Some (Resume layout prefix)) P = ⊥
IsProbeWith (Some (Demo number workers)) P = ⊥
IsProbeWith (Some (Probe told layout from to taps)) P = P told layout to taps
IsProbeWith (Some (Meter log)) P = ⊥
IsProbeWith (Some (Picture layout log from to)) P = ⊥
IsProbeWith (Some (Frames layout log)) P = ⊥
IsProbeWith (Some Help) P = ⊥
IsProbeWith (Some Version) P = ⊥
IsProbeWith None P = ⊥

-- the words are of a form that reads a log, meter LOG, picture LAYOUT LOG FROM TO or frames LAYOUT LOG, and this holds
-- of the log's name
abbrev pub IsLogWith : Option Asked → (List ℕ → Type 0) → Type 0
IsLogWith (Some (Check layout)) P = ⊥
IsLogWith (Some (Slack layout)) P = ⊥
IsLogWith (Some (Plain layout prefix)) P = ⊥
IsLogWith (Some (Run layout prefix workers)) P = ⊥
IsLogWith (Some (Stop layout prefix from)) P = ⊥
IsLogWith (Some (Resume layout prefix)) P = ⊥
IsLogWith (Some (Demo number workers)) P = ⊥
IsLogWith (Some (Probe told layout from to taps)) P = ⊥
IsLogWith (Some (Meter log)) P = P log
IsLogWith (Some (Picture layout log from to)) P = P log
IsLogWith (Some (Frames layout log)) P = P log
IsLogWith (Some Help) P = ⊥
IsLogWith (Some Version) P = ⊥
IsLogWith None P = ⊥

-- the words are of a form that compares a log with a layout, picture LAYOUT LOG FROM TO or frames LAYOUT LOG, and the
-- first or the second of these holds of the two names
abbrev pub IsComparedWith :
    Option Asked → (List ℕ → List ℕ → Type 0) → (List ℕ → List ℕ → Type 0) → Type 0
IsComparedWith (Some (Check layout)) P Q = ⊥
IsComparedWith (Some (Slack layout)) P Q = ⊥
IsComparedWith (Some (Plain layout prefix)) P Q = ⊥
IsComparedWith (Some (Run layout prefix workers)) P Q = ⊥
IsComparedWith (Some (Stop layout prefix from)) P Q = ⊥
IsComparedWith (Some (Resume layout prefix)) P Q = ⊥
IsComparedWith (Some (Demo number workers)) P Q = ⊥
IsComparedWith (Some (Probe told layout from to taps)) P Q = ⊥
IsComparedWith (Some (Meter log)) P Q = ⊥
IsComparedWith (Some (Picture layout log from to)) P Q = P layout log
IsComparedWith (Some (Frames layout log)) P Q = Q layout log
IsComparedWith (Some Help) P Q = ⊥
IsComparedWith (Some Version) P Q = ⊥
IsComparedWith None P Q = ⊥

-- the statuses of a call that begins no file and writes its line alone
abbrev pub IsRefusal : ℕ → Type 0
IsRefusal status =
    (status ≡ 1) ⊎ (status ≡ 2) ⊎ (status ≡ 3) ⊎ (status ≡ 4) ⊎ (status ≡ 7) ⊎ (status ≡ 8) ⊎ (status ≡ 9)
    ⊎ (status ≡ 10) ⊎ (status ≡ 11) ⊎ (status ≡ 12)

-- the statuses of a call that the outside didn't hinder; 6 is want of memory
abbrev pub IsDoneOrMemory : ℕ → Type 0
IsDoneOrMemory status = (status ≡ 0) ⊎ (status ≡ 6)

-- the statuses where there is a fault that has this status: that one, 4 only where a read failed, and 6 for want of
-- memory; the last two numbers count the failed reads
abbrev pub IsFaultStatus : ℕ → ℕ → ℕ → ℕ → Type 0
IsFaultStatus fault status reads risen = (status ≡ fault) ⊎ (status ≡ 6) ⊎ ((status ≡ 4) × Rose reads risen)

-- the statuses where a file to be read isn't held; 6 is want of memory
abbrev pub IsUnreadOrMemory : ℕ → Type 0
IsUnreadOrMemory status = (status ≡ 4) ⊎ (status ≡ 6)

-- the layout held at entry has no fault, and this holds of its network
abbrev pub IsNetworkWith : List ℕ → Option Files → (Layout → Type 0) → Type 0
IsNetworkWith layout held P = (network : Layout) × IsJudged layout held (Ok network) × P network

-- the layout and its loads held at entry have no fault, and this holds of their plan
abbrev pub IsPlannedWith : List ℕ → Option Files → (Plan → Type 0) → Type 0
IsPlannedWith layout held P = (plan : Plan) × IsPlanned layout held plan × P plan

-- of the files to be written one has the name of the layout or of a load, and the first such name was said
abbrev pub IsTakenNameSaid : List ℕ → ToWrite → Layout → Moment → Moment → Type 0
IsTakenNameSaid layout outputs network entry exit =
    (name : List ℕ) × (first_taken_name layout outputs network ≡ Some name)
    × Says (line_of_output_fault name) entry exit

-- the layout held at entry has no fault, and a file to be written has its name or that of one of its loads
abbrev pub HasTakenName : List ℕ → ToWrite → Option Files → Type 0
HasTakenName layout outputs held =
    IsNetworkWith layout held (λ network. (name : List ℕ) × (first_taken_name layout outputs network ≡ Some name))

-- no file to be written has the name of the layout or of a load, and the load of this station, numbered from 0, is the
-- first of the layout's loads with a fault
abbrev pub HasLoadFault : List ℕ → ToWrite → Option Files → ℕ → CaptureFault → Type 0
HasLoadFault layout outputs held station fault =
    IsNetworkWith layout held (λ network.
    AreNamesFree layout outputs network × IsLoaded held network.stations (Faulty station fault))

-- no file to be written has the name of the layout or of a load, and this is the name of the first load of the layout
-- that isn't held, no load before it having a fault
abbrev pub HasAbsentLoad : List ℕ → ToWrite → Option Files → List ℕ → Type 0
HasAbsentLoad layout outputs held name =
    IsNetworkWith layout held (λ network.
    AreNamesFree layout outputs network × IsFirstAbsent held network.stations name)

-- the layout or one of its loads isn't held or a read failed, and its name was said
abbrev pub IsInputFaultSaid : List ℕ → Moment → Moment → Type 0
IsInputFaultSaid layout entry exit =
    IsUnreadSaid layout entry exit
    ⊎ IsNetworkWith layout entry.held (λ network. IsLoadUnreadSaid network entry exit)

-- the layout isn't held or a read failed, or the layout has no fault and so it is with the log, and the name was said
abbrev pub IsPictureUnreadSaid : List ℕ → List ℕ → Moment → Moment → Type 0
IsPictureUnreadSaid layout log entry exit =
    IsUnreadSaid layout entry exit ⊎ IsNetworkWith layout entry.held (λ network. IsUnreadSaid log entry exit)

-- the layout or one of its loads isn't held or a read failed, or they have no fault and so it is with the state of a
-- prefix, and the name was said
abbrev pub IsResumeFaultSaid : List ℕ → List ℕ → Moment → Moment → Type 0
IsResumeFaultSaid layout prefix entry exit =
    IsInputFaultSaid layout entry exit
    ⊎ IsPlannedWith layout entry.held (λ plan. IsUnreadSaid (name_of_state prefix) entry exit)

-- the layout or one of its loads isn't held or a read failed, or they have no fault and so it is with the log, and the
-- name was said
abbrev pub IsTableFaultSaid : List ℕ → List ℕ → Moment → Moment → Type 0
IsTableFaultSaid layout log entry exit =
    IsInputFaultSaid layout entry exit ⊎ IsPlannedWith layout entry.held (λ plan. IsUnreadSaid log entry exit)

-- a file to be read, which is the log, or the layout or, for a run, a probe and a table, one of its loads, or the state
-- that a run goes on from, isn't held or a read failed, and its name was said
abbrev pub IsReadFaultSaid : Option Asked → Moment → Moment → Type 0
IsReadFaultSaid (Some (Check layout)) entry exit = IsUnreadSaid layout entry exit
IsReadFaultSaid (Some (Slack layout)) entry exit = IsUnreadSaid layout entry exit
IsReadFaultSaid (Some (Plain layout prefix)) entry exit = IsInputFaultSaid layout entry exit
IsReadFaultSaid (Some (Run layout prefix workers)) entry exit = IsInputFaultSaid layout entry exit
IsReadFaultSaid (Some (Stop layout prefix from)) entry exit = IsInputFaultSaid layout entry exit
IsReadFaultSaid (Some (Resume layout prefix)) entry exit = IsResumeFaultSaid layout prefix entry exit
IsReadFaultSaid (Some (Demo number workers)) entry exit = ⊥
IsReadFaultSaid (Some (Probe told layout from to taps)) entry exit = IsInputFaultSaid layout entry exit
IsReadFaultSaid (Some (Meter log)) entry exit = IsUnreadSaid log entry exit
IsReadFaultSaid (Some (Picture layout log from to)) entry exit = IsPictureUnreadSaid layout log entry exit
IsReadFaultSaid (Some (Frames layout log)) entry exit = IsTableFaultSaid layout log entry exit
IsReadFaultSaid (Some Help) entry exit = ⊥
IsReadFaultSaid (Some Version) entry exit = ⊥
IsReadFaultSaid None entry exit = ⊥

-- a run is stopped: the layout and the loads held at entry have no fault, the file PREFIX.state is the text of the
-- state of their network before its first quiet half bit at or after this one, every other file is as at entry, and the
-- sink got the half bit's line
pub record IsStopDone (layout prefix : List ℕ) (from : ℕ) (entry exit : Moment) : Type 0 where
  pub plan : Plan
  pub planned : IsPlanned layout entry.held plan
  pub t : ℕ
  pub first : IsFirstQuiet plan from t
  pub file : exit.held ≡ put_file (name_of_state prefix) (text_of_state plan (state_at plan t)) entry.held
  pub written : exit.written ≡ added (line_of_stopped t) entry.written

-- a run went on: the layout and the loads held at entry have no fault, nor has PREFIX.state held then, the files of the
-- run that goes on from its state are whole, every other file is as at entry, and the sink got that run's summary
pub record IsResumeDone (layout prefix : List ℕ) (entry exit : Moment) : Type 0 where
  pub plan : Plan
  pub planned : IsPlanned layout entry.held plan
  pub state : NetState
  pub read : HasState plan (name_of_state prefix) entry.held state
  pub files : exit.held ≡ put_all (resumed_files prefix plan state) entry.held
  pub summary : List ℕ
  pub summed : IsResumedSummary plan state summary
  pub written : exit.written ≡ added summary entry.written

-- the files of a plan's run are whole, and the sink got a front of its summary
pub record IsSummaryCut (prefix : List ℕ) (plan : Plan) (entry exit : Moment) : Type 0 where
  pub files : exit.held ≡ put_all (run_files prefix plan) entry.held
  pub summary : List ℕ
  pub summed : IsSummary plan summary
  pub cut : IsCutShort summary entry.written exit.written

-- a run is broken off: the layout and the loads held at entry have no fault; the files of their run before one of them
-- are whole, that one is as it was or a front of its text, every other file is as at entry, and nothing was said; or
-- all are whole, and the sink got a front of the summary
pub record IsRunBroken (layout prefix : List ℕ) (entry exit : Moment) : Type 0 where
  pub plan : Plan
  pub planned : IsPlanned layout entry.held plan
  pub left :
      (IsBrokenAmong (run_files prefix plan) entry.held exit.held × (exit.written ≡ entry.written))
      ⊎ IsSummaryCut prefix plan entry exit

-- the layout and the loads held at entry have no fault, and all files of their run are whole
pub record AreRunFilesHeld (layout prefix : List ℕ) (entry exit : Moment) : Type 0 where
  pub plan : Plan
  pub planned : IsPlanned layout entry.held plan
  pub files : exit.held ≡ put_all (run_files prefix plan) entry.held

-- nothing was begun: every file and the sink are as at entry
abbrev pub IsUnbegun : Moment → Moment → Type 0
IsUnbegun entry exit = (exit.held ≡ entry.held) × (exit.written ≡ entry.written)

-- a run that wanted memory: nothing was begun, or it is broken off
abbrev pub IsRunRefused : List ℕ → List ℕ → Moment → Moment → Type 0
IsRunRefused layout prefix entry exit = IsUnbegun entry exit ⊎ IsRunBroken layout prefix entry exit

-- the layout held at entry has no fault, and the sink got a front of a text that tells this of its network
pub record IsTellingCut (Tells : Layout → List ℕ → Type 0) (layout : List ℕ) (entry exit : Moment) : Type 0 where
  pub network : Layout
  pub judged : IsJudged layout entry.held (Ok network)
  pub text : List ℕ
  pub right : Tells network text
  pub cut : IsCutShort text entry.written exit.written

-- the slacks are told: the sink got the text of the layout's slacks
abbrev pub AreSlacksDone : List ℕ → Moment → Moment → Type 0
AreSlacksDone layout entry exit = IsTellingDone IsSlackText layout entry exit

-- a demo is done: the sink got the text of demo of its number, and every file is as at entry
pub record IsDemoDone (number : ℕ) (entry exit : Moment) : Type 0 where
  pub text : List ℕ
  pub right : IsDemoText number text
  pub written : exit.written ≡ added text entry.written
  pub held : exit.held ≡ entry.held

-- the sink got a front of the text of demo of a number
pub record IsDemoCut (number : ℕ) (entry exit : Moment) : Type 0 where
  pub text : List ℕ
  pub right : IsDemoText number text
  pub cut : IsCutShort text entry.written exit.written

-- the statuses of demo: done, a failed write, or want of memory
abbrev pub IsDemoStatus : ℕ → Type 0
IsDemoStatus status = (status ≡ 0) ⊎ (status ≡ 5) ⊎ (status ≡ 6)

-- a probe is done: the sink got this report of the half bits from one on and before another, over the taps of these
-- words, in the network of the layout with the loads held at entry, and every file is as at entry
pub record IsProbeDone (told : Report) (layout : List ℕ) (from to : ℕ) (taps : List (List ℕ)) (entry exit : Moment)
    : Type 0 where
  pub text : List ℕ
  pub right : IsProbeText told layout entry.held from to taps text
  pub written : exit.written ≡ added text entry.written
  pub held : exit.held ≡ entry.held

-- the sink got a front of that text
pub record IsProbeCut (told : Report) (layout : List ℕ) (from to : ℕ) (taps : List (List ℕ)) (entry exit : Moment)
    : Type 0 where
  pub text : List ℕ
  pub right : IsProbeText told layout entry.held from to taps text
  pub cut : IsCutShort text entry.written exit.written

-- what a probe aims at isn't in this network, and that was said
abbrev pub IsMissSaid : Report → Layout → ℕ → List (List ℕ) → Moment → Moment → Type 0
IsMissSaid told network to taps entry exit =
    (line : List ℕ) × IsMissLine told network to taps line × Says line entry exit

-- a log is metered: the sink got the text of the figures of the log held at entry, and every file is as at entry
pub record IsMeterDone (log : List ℕ) (entry exit : Moment) : Type 0 where
  pub text : List ℕ
  pub right : IsMeterText log entry.held text
  pub written : exit.written ≡ added text entry.written
  pub held : exit.held ≡ entry.held

-- the sink got a front of that text
pub record IsMeterCut (log : List ℕ) (entry exit : Moment) : Type 0 where
  pub text : List ℕ
  pub right : IsMeterText log entry.held text
  pub cut : IsCutShort text entry.written exit.written

-- the layout and the log have no fault, no line of the log names what the layout lacks, and this is the picture of what
-- the log tells of the half bits from one on and before another
pub record IsPictureText (layout log : List ℕ) (held : Option Files) (from to : ℕ) (text : List ℕ) : Type 0 where
  pub network : Layout
  pub judged : IsJudged layout held (Ok network)
  pub lines : List LogLine
  pub read : HasLog log held lines
  pub known : first_stranger network lines ≡ None
  pub is : text ≡ picture_of network lines from to

-- a picture is drawn: the sink got the picture of what the log held at entry tells of the half bits, in the network of
-- the layout held then, and every file is as at entry
pub record IsPictureDone (layout log : List ℕ) (from to : ℕ) (entry exit : Moment) : Type 0 where
  pub text : List ℕ
  pub right : IsPictureText layout log entry.held from to text
  pub written : exit.written ≡ added text entry.written
  pub held : exit.held ≡ entry.held

-- the sink got a front of that picture
pub record IsPictureCut (layout log : List ℕ) (from to : ℕ) (entry exit : Moment) : Type 0 where
  pub text : List ℕ
  pub right : IsPictureText layout log entry.held from to text
  pub cut : IsCutShort text entry.written exit.written

-- the layout, its loads and the log have no fault, no line of the log names what the plan lacks, and this is the table
-- of the plan and of the log's lines
pub record IsTableText (layout log : List ℕ) (held : Option Files) (text : List ℕ) : Type 0 where
  pub plan : Plan
  pub planned : IsPlanned layout held plan
  pub lines : List LogLine
  pub read : HasLog log held lines
  pub known : first_unplanned plan lines ≡ None
  pub is : IsFrameTable plan lines text

-- a table is told: the sink got the table of the frames of the layout with the loads held at entry, by the log held
-- then, and every file is as at entry
pub record IsTableDone (layout log : List ℕ) (entry exit : Moment) : Type 0 where
  pub text : List ℕ
  pub right : IsTableText layout log entry.held text
  pub written : exit.written ≡ added text entry.written
  pub held : exit.held ≡ entry.held

-- the sink got a front of that table
pub record IsTableCut (layout log : List ℕ) (entry exit : Moment) : Type 0 where
  pub text : List ℕ
  pub right : IsTableText layout log entry.held text
  pub cut : IsCutShort text entry.written exit.written

-- what these words ask for is done; words of no form ask for nothing that could be
abbrev pub IsDone : Option Asked → Moment → Moment → Type 0
IsDone (Some (Check layout)) entry exit = IsCheckDone layout entry exit
IsDone (Some (Slack layout)) entry exit = AreSlacksDone layout entry exit
IsDone (Some (Plain layout prefix)) entry exit = IsRunDone layout prefix entry exit
IsDone (Some (Run layout prefix workers)) entry exit = IsRunDone layout prefix entry exit
IsDone (Some (Stop layout prefix from)) entry exit = IsStopDone layout prefix from entry exit
IsDone (Some (Resume layout prefix)) entry exit = IsResumeDone layout prefix entry exit
IsDone (Some (Demo number workers)) entry exit = IsDemoDone number entry exit
IsDone (Some (Probe told layout from to taps)) entry exit = IsProbeDone told layout from to taps entry exit
IsDone (Some (Meter log)) entry exit = IsMeterDone log entry exit
IsDone (Some (Picture layout log from to)) entry exit = IsPictureDone layout log from to entry exit
IsDone (Some (Frames layout log)) entry exit = IsTableDone layout log entry exit
IsDone (Some Help) entry exit = IsTextDone HELP.now entry exit
IsDone (Some Version) entry exit = IsTextDone VERSION.now entry exit
IsDone None entry exit = ⊥

-- the log has no fault, and of its lines the one with this number, from 1, is the first that names what a network lacks
pub record HasStranger (network : Layout) (log : List ℕ) (held : Option Files) (n : ℕ) : Type 0 where
  pub lines : List LogLine
  pub read : HasLog log held lines
  pub first : first_stranger network lines ≡ Some n

-- a line of the log names what a network lacks, and the first such line was said
abbrev pub IsStrangerSaid : Layout → List ℕ → Moment → Moment → Type 0
IsStrangerSaid network log entry exit =
    (n : ℕ) × HasStranger network log entry.held n × Says (line_of_stranger n) entry exit

-- a line of the log names what a plan lacks, and the first such line was said
abbrev pub IsUnplannedSaid : Plan → List ℕ → Moment → Moment → Type 0
IsUnplannedSaid plan log entry exit =
    (n : ℕ) × HasUnplanned plan log entry.held n × Says (line_of_unplanned n) entry exit

-- a run that nothing hinders: the words are of a form that writes the files of a run, the store tells its files, the
-- layout and the loads are held without fault, no file to be written has the name of one of them, and no count of
-- faults has risen
pub record IsUnhindered (words : List (List ℕ)) (entry exit : Moment) : Type 0 where
  pub layout : List ℕ
  pub prefix : List ℕ
  pub asks : AskForFiles (asked words) layout prefix
  pub files : Files
  pub told : entry.held ≡ Some files
  pub network : Layout
  pub judged : IsJudged layout (Some files) (Ok network)
  pub free : AreNamesFree layout (RunOf prefix) network
  pub loads : List (List Record)
  pub loaded : IsLoaded (Some files) network.stations (Whole loads)
  pub reads : ¬ Rose entry.reads exit.reads
  pub writes : ¬ Rose entry.writes exit.writes
  pub faults : ¬ Rose entry.faults exit.faults
