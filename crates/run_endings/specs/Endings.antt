-- How check, and a form that runs the network of a layout file, may end (profile).
use Rattle.std.specs.Prelude.{◌≡◌, ◌≤◌, ◌⊎◌, ℕ, List, Option, None, Some, option_map, slice_get, Result, Ok, Err}
use Rattle.capture_file.specs.declared.fault.CaptureFault.{CaptureFault}
use Rattle.outside.specs.Files.{Files, IsAbsent, Rose}
use Rattle.outside.specs.declared.file.File.{File}
use Rattle.layout_file.specs.Faults.{judged}
use Rattle.layout.specs.declared.lines.Layout.{Layout}
use Rattle.layout_file.specs.declared.fault.LayoutFault.{LayoutFault}
use Rattle.load_files.specs.Loaded.{IsLoaded, IsFirstAbsent, Faulty, load_of}
use Rattle.load_plan.specs.declared.plan.Plan.{Plan}
use Rattle.run_endings.specs.FileLimits.{most_layout}
use Rattle.run_endings.specs.Reading.{front_of}
use Rattle.run_endings.specs.WrittenNames.{AreNamesFree, RunOf, ToWrite, first_taken_name}
use Rattle.run_endings.specs.Writing.{put_all, added, IsBrokenAmong, IsSaid, IsCutShort}
use Rattle.run_endings.specs.Moments.{Moment}
use Rattle.run_endings.specs.Runs.{IsPlanOf, IsSummary, run_files}
use Rattle.program_texts.specs.Texts.{line_of_fault, line_of_load_fault, line_of_output_fault, line_of_read_fault}
use Rattle.program_texts.specs.Verdicts.{IsVerdictLine}
use Rattle.run_endings.specs.declared.endings.Ending.{Ending}
use Rattle.run_endings.specs.declared.endings.Ending.TheVariants as ending

-- where the store tells its files, the layout was there and was judged so, whole or at one octet past the most that
-- it may have
abbrev pub IsJudged : List ℕ → Option Files → Result Layout LayoutFault → Type 0
IsJudged name None verdict = Unit {0}
IsJudged name (Some files) verdict = option_map judged (front_of most_layout name files) ≡ Some verdict

-- the layout has a fault
abbrev pub HasFault : List ℕ → Option Files → Type 0
HasFault name held = (fault : LayoutFault) × IsJudged name held (Err fault)

-- this line was said, or a front of it where the sink refused
abbrev pub Says : List ℕ → Moment → Moment → Type 0
Says line before after = IsSaid line before.written after.written before.refused after.refused

-- this line was said, or a front of it, and the store is as before
pub record IsOnlySaid (line : List ℕ) (before after : Moment) : Type 0 where
  pub said : Says line before after
  pub held : after.held ≡ before.held
  pub reads : after.reads ≡ before.reads
  pub writes : after.writes ≡ before.writes

-- the layout has a fault, and its line was said
abbrev pub IsFaultSaid : List ℕ → Moment → Moment → Type 0
IsFaultSaid name before after =
    (fault : LayoutFault) × IsJudged name before.held (Err fault) × Says (line_of_fault fault) before after

-- of a network's loads that of a station, from 0, is the first with a fault, and its line was said
pub record IsLoadFaultSaid (network : Layout) (before after : Moment) : Type 0 where
  pub station : ℕ
  pub fault : CaptureFault
  pub loaded : IsLoaded before.held network.stations (Faulty station fault)
  pub name : List ℕ
  pub named : option_map (λ s. s.name) (slice_get network.stations station) ≡ Some name
  pub said : Says (line_of_load_fault name fault) before after

-- a load of the network is the first that isn't held, no load before it having a fault, or a read of it failed; that
-- was said
pub record IsLoadUnreadSaid (network : Layout) (before after : Moment) : Type 0 where
  pub station : ℕ
  pub name : List ℕ
  pub named : load_of network.stations station ≡ Some name
  pub unread : IsFirstAbsent before.held network.stations name ⊎ Rose before.reads after.reads
  pub said : Says (line_of_read_fault name) before after

-- a file isn't held or a read failed, and that was said
abbrev pub IsUnreadSaid : List ℕ → Moment → Moment → Type 0
IsUnreadSaid name before after =
    (IsAbsent name before.held ⊎ Rose before.reads after.reads) × Says (line_of_read_fault name) before after

-- a file could not be read, and that was said, or there was no memory for one of both
abbrev pub IsUnread : List ℕ → Moment → Moment → Ending → Type 0
IsUnread name before after e =
    ((e ≡ ending.Read) × IsUnreadSaid name before after) ⊎ ((e ≡ ending.Memory) × (after.written ≡ before.written))

-- the call ended before a layout without fault was read
abbrev pub IsEarly : List ℕ → Moment → Moment → Ending → Type 0
IsEarly name before after ending.Done = ⊥
IsEarly name before after ending.Words = ⊥
IsEarly name before after ending.Layout = IsFaultSaid name before after
IsEarly name before after ending.Load = ⊥
IsEarly name before after ending.Read = IsUnreadSaid name before after
IsEarly name before after ending.Write = ⊥
IsEarly name before after ending.Memory = after.written ≡ before.written
IsEarly name before after ending.Probe = ⊥
IsEarly name before after ending.Log = ⊥
IsEarly name before after ending.Stranger = ⊥
IsEarly name before after ending.Unquiet = ⊥
IsEarly name before after ending.State = ⊥
IsEarly name before after ending.Output = ⊥

-- the call ended before the network's loads, without fault, were read
abbrev pub IsUnloadedSaid : Layout → Moment → Moment → Ending → Type 0
IsUnloadedSaid network before after ending.Done = ⊥
IsUnloadedSaid network before after ending.Words = ⊥
IsUnloadedSaid network before after ending.Layout = ⊥
IsUnloadedSaid network before after ending.Load = IsLoadFaultSaid network before after
IsUnloadedSaid network before after ending.Read = IsLoadUnreadSaid network before after
IsUnloadedSaid network before after ending.Write = ⊥
IsUnloadedSaid network before after ending.Memory = after.written ≡ before.written
IsUnloadedSaid network before after ending.Probe = ⊥
IsUnloadedSaid network before after ending.Log = ⊥
IsUnloadedSaid network before after ending.Stranger = ⊥
IsUnloadedSaid network before after ending.Unquiet = ⊥
IsUnloadedSaid network before after ending.State = ⊥
IsUnloadedSaid network before after ending.Output = ⊥

-- what is said of a file to be written that has the name of the layout or of a load: the line of the first such name,
-- and nothing without memory
abbrev pub IsTakenEnd : List ℕ → ToWrite → Layout → Moment → Moment → Ending → Type 0
IsTakenEnd layout outputs network before after ending.Output =
    (name : List ℕ) × (first_taken_name layout outputs network ≡ Some name)
    × Says (line_of_output_fault name) before after
IsTakenEnd layout outputs network before after ending.Memory = after.written ≡ before.written
IsTakenEnd layout outputs network before after _ = ⊥

-- the layout has no fault, a file to be written has its name or that of a load, and the first such name was said; or
-- there was no memory to look for one
pub record IsTaken (layout : List ℕ) (outputs : ToWrite) (before after : Moment) (e : Ending) : Type 0 where
  pub network : Layout
  pub judged : IsJudged layout before.held (Ok network)
  pub said : IsTakenEnd layout outputs network before after e

-- the layout has no fault, no file to be written has the name of the layout or of a load, and the call ended before the
-- loads were read
pub record IsLoadEnd (layout : List ℕ) (outputs : ToWrite) (before after : Moment) (e : Ending) : Type 0 where
  pub network : Layout
  pub judged : IsJudged layout before.held (Ok network)
  pub free : AreNamesFree layout outputs network
  pub said : IsUnloadedSaid network before after e

-- a fixed text was written to the sink, or a front of it was
abbrev pub IsText : List ℕ → Moment → Moment → Ending → Type 0
IsText text before after ending.Done = after.written ≡ added text before.written
IsText text before after ending.Words = ⊥
IsText text before after ending.Layout = ⊥
IsText text before after ending.Load = ⊥
IsText text before after ending.Read = ⊥
IsText text before after ending.Write =
    IsCutShort text before.written after.written × Rose before.faults after.faults
IsText text before after ending.Memory = IsCutShort text before.written after.written
IsText text before after ending.Probe = ⊥
IsText text before after ending.Log = ⊥
IsText text before after ending.Stranger = ⊥
IsText text before after ending.Unquiet = ⊥
IsText text before after ending.State = ⊥
IsText text before after ending.Output = ⊥

-- a write failed, or there was no memory
abbrev pub IsWriteFailure : Ending → Type 0
IsWriteFailure e = (e ≡ ending.Write) ⊎ (e ≡ ending.Memory)

-- all these files are whole; a text that is right was written, or a front of it
abbrev pub AreFiled : List File → (List ℕ → Type 0) → Moment → Moment → Ending → Type 0
AreFiled files IsRight before after e =
    (after.held ≡ put_all files before.held)
    × ((text : List ℕ) × IsRight text × IsText text before after e)

-- one of these files could not be written, or there was no memory for it; nothing was said
abbrev pub IsUnfiled : List File → Moment → Moment → Ending → Type 0
IsUnfiled files before after ending.Done = ⊥
IsUnfiled files before after ending.Words = ⊥
IsUnfiled files before after ending.Layout = ⊥
IsUnfiled files before after ending.Load = ⊥
IsUnfiled files before after ending.Read = ⊥
IsUnfiled files before after ending.Write =
    IsBrokenAmong files before.held after.held × Rose before.writes after.writes × (after.written ≡ before.written)
IsUnfiled files before after ending.Memory =
    IsBrokenAmong files before.held after.held × (after.written ≡ before.written)
IsUnfiled files before after ending.Probe = ⊥
IsUnfiled files before after ending.Log = ⊥
IsUnfiled files before after ending.Stranger = ⊥
IsUnfiled files before after ending.Unquiet = ⊥
IsUnfiled files before after ending.State = ⊥
IsUnfiled files before after ending.Output = ⊥

-- a file could not be written: a write to the store failed, or there was no memory
abbrev pub IsFileEnd : Moment → Moment → Ending → Type 0
IsFileEnd before after ending.Write = Rose before.writes after.writes
IsFileEnd before after ending.Memory = Unit {0}
IsFileEnd before after _ = ⊥

-- nothing but files was written; the count of failed writes of the store doesn't fall
pub record HasOnlyFiled (before after : Moment) : Type 0 where
  pub writes : before.writes ≤ after.writes
  pub written : after.written ≡ before.written
  pub faults : after.faults ≡ before.faults

-- there was no memory for the run, before a file was begun
abbrev pub IsUnrun : Moment → Moment → Ending → Type 0
IsUnrun before after e = (e ≡ ending.Memory) × (after.held ≡ before.held) × (after.written ≡ before.written)

-- reading changed nothing but the counts of failed reads and writes of the store, which don't fall
pub record HasOnlyRead (before after : Moment) : Type 0 where
  pub held : after.held ≡ before.held
  pub reads : before.reads ≤ after.reads
  pub writes : before.writes ≤ after.writes
  pub written : after.written ≡ before.written
  pub faults : after.faults ≡ before.faults
  pub refused : after.refused ≡ before.refused

-- the layout held under this name has no fault, and this is its plan with the loads held
pub record IsPlanned (layout : List ℕ) (held : Option Files) (plan : Plan) : Type 0 where
  pub network : Layout
  pub judged : IsJudged layout held (Ok network)
  pub is : IsPlanOf held network plan

-- these files were written, and a text that is right, or some of them were
abbrev pub IsFiledEnd : List File → (List ℕ → Type 0) → Moment → Moment → Ending → Type 0
IsFiledEnd files IsRight before after e =
    AreFiled files IsRight before after e ⊎ IsUnfiled files before after e

-- the end of what writes these files and such a text; or there was no memory to begin them
abbrev pub IsRunEnd : List File → (List ℕ → Type 0) → Moment → Moment → Ending → Type 0
IsRunEnd files IsRight before after e = IsUnrun before after e ⊎ IsFiledEnd files IsRight before after e

-- the layout and its loads have no fault, no file of its run has the name of one of them, and its network was run
pub record IsRun (layout prefix : List ℕ) (before after : Moment) (e : Ending) : Type 0 where
  pub plan : Plan
  pub planned : IsPlanned layout before.held plan
  pub free : AreNamesFree layout (RunOf prefix) plan.layout
  pub filed : IsFiledEnd (run_files prefix plan) (IsSummary plan) before after e

-- the call ended before the network of a layout was run whose run or state is to be written
abbrev pub IsBeforeRun : List ℕ → ToWrite → Moment → Moment → Ending → Type 0
IsBeforeRun layout outputs before after e =
    (IsEarly layout before after e × (after.held ≡ before.held))
    ⊎ (IsTaken layout outputs before after e × (after.held ≡ before.held))
    ⊎ (IsLoadEnd layout outputs before after e × (after.held ≡ before.held))
    ⊎ IsUnrun before after e

-- the end of the form plain LAYOUT PREFIX, and of run LAYOUT PREFIX WORKERS for any number of workers
abbrev pub IsPlainEnd : List ℕ → List ℕ → Moment → Moment → Ending → Type 0
IsPlainEnd layout prefix before after e =
    IsBeforeRun layout (RunOf prefix) before after e ⊎ IsRun layout prefix before after e

-- the layout has no fault, and a text that tells this of its network was written, or a front of it
pub record IsTold (Tells : Layout → List ℕ → Type 0) (layout : List ℕ) (before after : Moment)
    (e : Ending) : Type 0 where
  pub network : Layout
  pub judged : IsJudged layout before.held (Ok network)
  pub text : List ℕ
  pub right : Tells network text
  pub written : IsText text before after e

-- the end of a form whose text tells this of a layout's network; it reads no loads
abbrev pub IsTellingEnd : (Layout → List ℕ → Type 0) → List ℕ → Moment → Moment → Ending → Type 0
IsTellingEnd Tells layout before after e =
    (after.held ≡ before.held) × (IsEarly layout before after e ⊎ IsTold Tells layout before after e)

-- the end of the form check LAYOUT: the line of the path verdict
abbrev pub IsCheckEnd : List ℕ → Moment → Moment → Ending → Type 0
IsCheckEnd layout before after e = IsTellingEnd IsVerdictLine layout before after e

-- the end of a form that writes a fixed text
abbrev pub IsTextEnd : List ℕ → Moment → Moment → Ending → Type 0
IsTextEnd text before after e =
    IsText text before after e × (after.held ≡ before.held)
