-- The status of a run is that of its loads: 3 where one has a fault, and 0 where all are whole and nothing hinders.
use Rattle.std.proofs.Common.{◌≡◌, ◌⊎◌, ℕ, Option, None, Some, Ok, Err, List, refl, sym, ap, subst, ◌∙◌, inl, inr}
use Rattle.std.specs.Prelude.{IfSome}
use Rattle.capture_file.specs.declared.entries.Record.{Record}
use Rattle.capture_file.specs.declared.fault.CaptureFault.{CaptureFault}
use Rattle.outside.specs.Files.{Files, IsAbsent, Rose}
use Rattle.outside.specs.declared.file.File.{File}
use Rattle.run_endings.specs.Runs.{IsSummary, run_files}
use Rattle.layout.specs.declared.lines.Layout.{Layout}
use Rattle.layout_file.specs.declared.fault.LayoutFault.{LayoutFault}
use Rattle.load_files.specs.Loaded.{Loaded, IsLoaded, IsFirstAbsent, Whole, Faulty, Absent, loaded}
use Rattle.load_plan.specs.declared.plan.Plan.{Plan}
use Rattle.run_endings.specs.declared.endings.Ending.{Ending}
use Rattle.run_endings.specs.declared.endings.Ending.TheVariants as ending
use Rattle.run_endings.specs.Moments.{Moment}
use Rattle.program_endings.specs.Answers.{IsAnswer, IsEndOf}
use Rattle.run_endings.specs.Answers.{status_of}
use Rattle.program_endings.specs.Endings.{IsDemoEnd, IsMeterEnd, IsPictureEnd, IsResumeEnd, IsStopEnd, IsFramesEnd}
use Rattle.run_endings.specs.Endings.{IsPlainEnd, IsTellingEnd, IsJudged, IsEarly, IsLoadFaultSaid, IsPlanned, IsTakenEnd, IsUnloadedSaid, IsUnreadSaid, IsUnrun, IsFiledEnd, IsText}
use Rattle.program_endings.specs.ProbeEnds.{IsProbeEnd}
use Rattle.run_endings.specs.WrittenNames.{AreNamesFree, RunOf, StateOf, ToWrite, first_taken_name, NoFile}
use Rattle.program_words.specs.Requests.{Asked, asked, Check, Slack, Plain, Run, Stop, Resume, Demo, Probe, Meter, Picture, Frames, Help, Version}
use Rattle.program_words.specs.declared.words.Report.{Report}
use Rattle.program_endings.specs.Statuses.{HasAbsentLoad, HasLoadFault, IsDoneOrMemory, IsFaultStatus, IsInputFaultSaid, IsLoadedWith, IsNetworkWith, IsPictureUnreadSaid, IsReadFaultSaid, IsResumeFaultSaid, IsUnhindered, IsUnreadOrMemory, IsTableFaultSaid}
use Rattle.program_endings.specs.StatusLaws.{AreDemosComplete, AreLoadFaultsSaid, AreReadFaultsSaid, AreTellingsComplete, AreTextsComplete, DoAbsentLoadsDecide, DoLoadFaultsDecide}
use Rattle.program_endings.proofs.EndingsByStatus.{by_demo, by_meter, by_picture, by_probe, by_resume, by_stop, demo_end, end_at, files_end, of_tellings, of_texts, resume_end, stop_end, by_frames, frames_end}
use Rattle.run_endings.proofs.WaysOfEnding.{by_way}
use Rattle.program_endings.proofs.LayoutDecidesStatus.{absent_unjudged, good_or_faulty}
use Rattle.run_endings.proofs.OneNetwork.{same_network}

-- of every network
abbrev pub AnyNetwork : Layout → Type 0
AnyNetwork network = Unit {0}

-- some network was judged good, Q holds of it, and its loads are these
pub record IsKnown (Q : Layout → Type 0) (layout : List ℕ) (files : Files) (l : Loaded) : Type 0 where
  pub network : Layout
  pub judged : IsJudged layout (Some files) (Ok network)
  pub so : Q network
  pub is : loaded files network.stations ≡ l

-- X holds of the loads of the layout, whatever they are, where Q holds of its network
abbrev pub IfKnown : (Layout → Type 0) → List ℕ → Option Files → (Loaded → Type 0) → Type 0
IfKnown Q layout None X = Unit {0}
IfKnown Q layout (Some files) X = (l : Loaded) → IsKnown Q layout files l → X l

module _ (Q : Layout → Type 0) where
  -- they are only ever the same
  known_same : (layout : List ℕ) (files : Files) (a b : Loaded) → IsKnown Q layout files a → IsKnown Q layout files b → a ≡ b
  known_same layout files a b one two =
      let same : one.network ≡ two.network = same_network layout files one.network two.network one.judged two.judged in
      let there : loaded files one.network.stations ≡ b = rw same two.is in
      sym one.is ∙ there

  always : (layout : List ℕ) (held : Option Files) (X : Loaded → Type 0) → ((l : Loaded) → X l) → IfKnown Q layout held X
  always layout None X all = tt
  always layout (Some files) X all = λ l known. all l

  known_faulty : (layout : List ℕ) (held : Option Files) (X : Loaded → Type 0) (f : LayoutFault) → IsJudged layout held (Err f) → IfKnown Q layout held X
  known_faulty layout None X f judged = tt
  known_faulty layout (Some files) X f judged = λ l known. absurd (good_or_faulty layout files known.network f known.judged judged)

  known_unread : (layout : List ℕ) (held : Option Files) (reads risen : ℕ) (X : Loaded → Type 0) → ((l : Loaded) → Rose reads risen → X l) → IsAbsent layout held ⊎ Rose reads risen → IfKnown Q layout held X
  known_unread layout None reads risen X on unread = tt
  known_unread layout (Some files) reads risen X on unread =
      λ l known. elim unread [ inl absent ↦ absurd (absent_unjudged layout (Some files) (Ok known.network) absent known.judged) | inr rose ↦ on l rose ]

  pub known_loads : (layout : List ℕ) (held : Option Files) (network : Layout) (a : Loaded) (X : Loaded → Type 0) → IsJudged layout held (Ok network) → Q network → IsLoaded held network.stations a → X a → IfKnown Q layout held X
  known_loads layout None network a X judged so is x = tt
  known_loads layout (Some files) network a X judged so is x =
      λ l known. subst X (known_same layout files a l (record { network = network; judged = judged; so = so; is = is }) known) x

  known_absent : (layout : List ℕ) (held : Option Files) (network : Layout) (name : List ℕ) (reads risen : ℕ) (X : Loaded → Type 0) → IsJudged layout held (Ok network) → Q network → X (Absent name)
      → ((l : Loaded) → Rose reads risen → X l) → IsFirstAbsent held network.stations name ⊎ Rose reads risen → IfKnown Q layout held X
  known_absent layout None network name reads risen X judged so x on unread = tt
  known_absent layout (Some files) network name reads risen X judged so x on unread =
      elim unread [ inl absent ↦ known_loads layout (Some files) network (Absent name) X judged so absent x | inr rose ↦ (λ l known. on l rose) ]

-- what a status says of loads
pub record Says (X : ℕ → Loaded → Type 0) (reads risen : ℕ) : Type 0 where
  pub memory : (l : Loaded) → X 6 l
  pub rose : (l : Loaded) → Rose reads risen → X 4 l
  pub absent : (name : List ℕ) → X 4 (Absent name)
  pub fault : (station : ℕ) (f : CaptureFault) → X 3 (Faulty station f)

module _ (Q : Layout → Type 0) (X : ℕ → Loaded → Type 0) (layout : List ℕ) (before after : Moment) (says : Says X before.reads after.reads) where
  pub early_known : (e : Ending) → IsEarly layout before after e → IfKnown Q layout before.held (X (status_of e))
  early_known ending.Done early = absurd early
  early_known ending.Words early = absurd early
  early_known ending.Layout early = known_faulty Q layout before.held (X 2) early.0 early.1
  early_known ending.Load early = absurd early
  early_known ending.Read early = known_unread Q layout before.held before.reads after.reads (X 4) says.rose early.0
  early_known ending.Write early = absurd early
  early_known ending.Memory early = always Q layout before.held (X 6) says.memory
  early_known ending.Probe early = absurd early
  early_known ending.Log early = absurd early
  early_known ending.Stranger early = absurd early
  early_known ending.Unquiet early = absurd early
  early_known ending.State early = absurd early
  early_known ending.Output early = absurd early

  pub unloaded_known : (network : Layout) (e : Ending) → IsJudged layout before.held (Ok network) → Q network → IsUnloadedSaid network before after e → IfKnown Q layout before.held (X (status_of e))
  unloaded_known network ending.Done judged so said = absurd said
  unloaded_known network ending.Words judged so said = absurd said
  unloaded_known network ending.Layout judged so said = absurd said
  unloaded_known network ending.Load judged so said = known_loads Q layout before.held network (Faulty said.station said.fault) (X 3) judged so said.loaded (says.fault said.station said.fault)
  unloaded_known network ending.Read judged so said = known_absent Q layout before.held network said.name before.reads after.reads (X 4) judged so (says.absent said.name) says.rose said.unread
  unloaded_known network ending.Write judged so said = absurd said
  unloaded_known network ending.Memory judged so said = always Q layout before.held (X 6) says.memory
  unloaded_known network ending.Probe judged so said = absurd said
  unloaded_known network ending.Log judged so said = absurd said
  unloaded_known network ending.Stranger judged so said = absurd said
  unloaded_known network ending.Unquiet judged so said = absurd said
  unloaded_known network ending.State judged so said = absurd said
  unloaded_known network ending.Output judged so said = absurd said

  unrun_known : (e : Ending) → IsUnrun before after e → IfKnown Q layout before.held (X (status_of e))
  unrun_known e unrun = let six : 6 ≡ status_of e = sym (ap status_of unrun.0) in always Q layout before.held (X (status_of e)) (λ l. subst (λ n. X n l) six (says.memory l))

-- a file to be written can't both have the name of an input and have none
pub taken_or_free : (layout : List ℕ) (outputs : ToWrite) (files : Files) (network other : Layout) (name : List ℕ) → IsJudged layout (Some files) (Ok network) → IsJudged layout (Some files) (Ok other)
    → first_taken_name layout outputs network ≡ Some name → AreNamesFree layout outputs other → ⊥
taken_or_free layout outputs files network other name one two taken free =
    let none : first_taken_name layout outputs network ≡ None = subst (λ n. AreNamesFree layout outputs n) (same_network layout files other network two one) free in
    let both = sym taken ∙ none in cc

-- nothing is known of a network for which no name is taken, where one is
known_taken : (layout : List ℕ) (outputs : ToWrite) (held : Option Files) (network : Layout) (name : List ℕ) (X : Loaded → Type 0) → IsJudged layout held (Ok network) → first_taken_name layout outputs network ≡ Some name
    → IfKnown (AreNamesFree layout outputs) layout held X
known_taken layout outputs None network name X judged taken = tt
known_taken layout outputs (Some files) network name X judged taken = λ l known. absurd (taken_or_free layout outputs files network known.network name judged known.judged taken known.so)

module _ (X : ℕ → Loaded → Type 0) (layout : List ℕ) (outputs : ToWrite) (before after : Moment) (says : Says X before.reads after.reads) where
  pub taken_known : (network : Layout) (e : Ending) → IsJudged layout before.held (Ok network) → IsTakenEnd layout outputs network before after e → IfKnown (AreNamesFree layout outputs) layout before.held (X (status_of e))
  taken_known network ending.Done judged said = absurd said
  taken_known network ending.Words judged said = absurd said
  taken_known network ending.Layout judged said = absurd said
  taken_known network ending.Load judged said = absurd said
  taken_known network ending.Read judged said = absurd said
  taken_known network ending.Write judged said = absurd said
  taken_known network ending.Memory judged said = always (AreNamesFree layout outputs) layout before.held (X 6) says.memory
  taken_known network ending.Probe judged said = absurd said
  taken_known network ending.Log judged said = absurd said
  taken_known network ending.Stranger judged said = absurd said
  taken_known network ending.Unquiet judged said = absurd said
  taken_known network ending.State judged said = absurd said
  taken_known network ending.Output judged said = known_taken layout outputs before.held network said.0 (X 12) judged said.1

-- what holds of the layout of a plan holds of the network that was planned
pub of_planned : (Q : Layout → Type 0) (layout : List ℕ) (held : Option Files) (plan : Plan) (planned : IsPlanned layout held plan) → Q plan.layout → Q planned.network
of_planned Q layout held plan planned so = subst (λ n. Q n) planned.is.layout so

-- what an end of a run says, where it is known what it says of a run
plain_known : (X : ℕ → Loaded → Type 0) (layout prefix : List ℕ) (before after : Moment) (e : Ending) → Says X before.reads after.reads
    → ((loads : List (List Record)) (plan : Plan) → IsFiledEnd (run_files prefix plan) (IsSummary plan) before after e → X (status_of e) (Whole loads)) → IsPlainEnd layout prefix before after e
    → IfKnown (AreNamesFree layout (RunOf prefix)) layout before.held (X (status_of e))
plain_known X layout prefix before after e says ran h =
    by_way (IfKnown (AreNamesFree layout (RunOf prefix)) layout before.held (X (status_of e))) layout prefix before after e (λ early. early_known (AreNamesFree layout (RunOf prefix)) X layout before after says e early)
    (λ taken. taken_known X layout (RunOf prefix) before after says taken.network e taken.judged taken.said)
    (λ unloaded. unloaded_known (AreNamesFree layout (RunOf prefix)) X layout before after says unloaded.network e unloaded.judged unloaded.free unloaded.said) (λ unrun. unrun_known (AreNamesFree layout (RunOf prefix)) X layout before after says e unrun)
    (λ run. known_loads (AreNamesFree layout (RunOf prefix)) layout before.held run.planned.network (Whole run.planned.is.loads) (X (status_of e)) run.planned.judged (of_planned (AreNamesFree layout (RunOf prefix)) layout before.held run.plan run.planned run.free) run.planned.is.loaded (ran run.planned.is.loads run.plan run.filed)) h

-- what an end of a stop says, where it is known what it says of whole loads
stop_known : (X : ℕ → Loaded → Type 0) (layout prefix : List ℕ) (from : ℕ) (before after : Moment) (e : Ending) → Says X before.reads after.reads → ((loads : List (List Record)) → X (status_of e) (Whole loads))
    → IsStopEnd layout prefix from before after e → IfKnown (AreNamesFree layout (StateOf prefix)) layout before.held (X (status_of e))
stop_known X layout prefix from before after e says whole h =
    by_stop (IfKnown (AreNamesFree layout (StateOf prefix)) layout before.held (X (status_of e))) layout prefix from before after e (λ early. early_known (AreNamesFree layout (StateOf prefix)) X layout before after says e early)
    (λ taken. taken_known X layout (StateOf prefix) before after says taken.network e taken.judged taken.said)
    (λ unloaded. unloaded_known (AreNamesFree layout (StateOf prefix)) X layout before after says unloaded.network e unloaded.judged unloaded.free unloaded.said) (λ unrun. unrun_known (AreNamesFree layout (StateOf prefix)) X layout before after says e unrun)
    (λ un. known_loads (AreNamesFree layout (StateOf prefix)) layout before.held un.planned.network (Whole un.planned.is.loads) (X (status_of e)) un.planned.judged (of_planned (AreNamesFree layout (StateOf prefix)) layout before.held un.plan un.planned un.free) un.planned.is.loaded (whole un.planned.is.loads))
    (λ ran. known_loads (AreNamesFree layout (StateOf prefix)) layout before.held ran.planned.network (Whole ran.planned.is.loads) (X (status_of e)) ran.planned.judged (of_planned (AreNamesFree layout (StateOf prefix)) layout before.held ran.plan ran.planned ran.free) ran.planned.is.loaded (whole ran.planned.is.loads)) h

-- what an end of a resume says
resume_known : (X : ℕ → Loaded → Type 0) (layout prefix : List ℕ) (before after : Moment) (e : Ending) → Says X before.reads after.reads → ((loads : List (List Record)) → X (status_of e) (Whole loads))
    → IsResumeEnd layout prefix before after e → IfKnown (AreNamesFree layout (RunOf prefix)) layout before.held (X (status_of e))
resume_known X layout prefix before after e says whole h =
    by_resume (IfKnown (AreNamesFree layout (RunOf prefix)) layout before.held (X (status_of e))) layout prefix before after e (λ early. early_known (AreNamesFree layout (RunOf prefix)) X layout before after says e early)
    (λ taken. taken_known X layout (RunOf prefix) before after says taken.network e taken.judged taken.said)
    (λ unloaded. unloaded_known (AreNamesFree layout (RunOf prefix)) X layout before after says unloaded.network e unloaded.judged unloaded.free unloaded.said) (λ unrun. unrun_known (AreNamesFree layout (RunOf prefix)) X layout before after says e unrun)
    (λ un. known_loads (AreNamesFree layout (RunOf prefix)) layout before.held un.planned.network (Whole un.planned.is.loads) (X (status_of e)) un.planned.judged (of_planned (AreNamesFree layout (RunOf prefix)) layout before.held un.plan un.planned un.free) un.planned.is.loaded (whole un.planned.is.loads))
    (λ ran. known_loads (AreNamesFree layout (RunOf prefix)) layout before.held ran.planned.network (Whole ran.planned.is.loads) (X (status_of e)) ran.planned.judged (of_planned (AreNamesFree layout (RunOf prefix)) layout before.held ran.plan ran.planned ran.free) ran.planned.is.loaded (whole ran.planned.is.loads)) h

-- a form that writes nothing writes over nothing
pub no_names : (layout : List ℕ) (network : Layout) → AreNamesFree layout NoFile network
unfolding first_taken_name
no_names layout network = refl

-- what an end of frames says, where it is known what it says of whole loads
frames_known : (X : ℕ → Loaded → Type 0) (layout log : List ℕ) (before after : Moment) (e : Ending) → Says X before.reads after.reads → ((loads : List (List Record)) → X (status_of e) (Whole loads))
    → IsFramesEnd layout log before after e → IfKnown (AreNamesFree layout NoFile) layout before.held (X (status_of e))
frames_known X layout log before after e says whole h =
    by_frames (IfKnown (AreNamesFree layout NoFile) layout before.held (X (status_of e))) layout log before after e (λ early. early_known (AreNamesFree layout NoFile) X layout before after says e early)
    (λ unqueued. unloaded_known (AreNamesFree layout NoFile) X layout before after says unqueued.network e unqueued.judged (no_names layout unqueued.network) unqueued.said)
    (λ untabled. known_loads (AreNamesFree layout NoFile) layout before.held untabled.planned.network (Whole untabled.planned.is.loads) (X (status_of e)) untabled.planned.judged (no_names layout untabled.planned.network) untabled.planned.is.loaded (whole untabled.planned.is.loads))
    (λ d unplanned. known_loads (AreNamesFree layout NoFile) layout before.held d.planned.network (Whole d.planned.is.loads) (X (status_of e)) d.planned.judged (no_names layout d.planned.network) d.planned.is.loaded (whole d.planned.is.loads))
    (λ d tabled. known_loads (AreNamesFree layout NoFile) layout before.held d.planned.network (Whole d.planned.is.loads) (X (status_of e)) d.planned.judged (no_names layout d.planned.network) d.planned.is.loaded (whole d.planned.is.loads)) h

-- a fault of a load has its status
abbrev FaultSays : ℕ → ℕ → ℕ → Loaded → Type 0
FaultSays reads risen n l = (station : ℕ) (f : CaptureFault) → l ≡ Faulty station f → IsFaultStatus 3 n reads risen

pub fault_says : (reads risen : ℕ) → Says (FaultSays reads risen) reads risen
fault_says reads risen = record {
  memory = λ l station f is. inr (inl refl);
  rose = λ l rose station f is. inr (inr (refl, rose));
  absent = λ name station f is. cc;
  fault = λ s g station f is. inl refl;
}

known_fault : (layout : List ℕ) (outputs : ToWrite) (held : Option Files) (n reads risen : ℕ) → IfKnown (AreNamesFree layout outputs) layout held (FaultSays reads risen n)
    → IfSome held (λ files. (station : ℕ) (f : CaptureFault) → HasLoadFault layout outputs (Some files) station f → IsFaultStatus 3 n reads risen)
known_fault layout outputs None n reads risen known = tt
known_fault layout outputs (Some files) n reads risen known =
    λ station f has. known (Faulty station f) (record { network = has.0; judged = has.1; so = has.2.0; is = has.2.1 }) station f refl

-- whole loads have no fault
whole_or : (X : Type 0) (loads : List (List Record)) (station : ℕ) (f : CaptureFault) → Whole loads ≡ Faulty station f → X
whole_or X loads station f is = absurd (cc)

-- status 3 where a load has a fault
pub load_faults_decide : DoLoadFaultsDecide
load_faults_decide words entry exit status answer =
    let X : ℕ → Loaded → Type 0 = FaultSays entry.reads exit.reads in
    let says : Says X entry.reads exit.reads = fault_says entry.reads exit.reads in
    let n : ℕ = status_of answer.by in
    rw answer.is (
      λ layout prefix is. known_fault layout (RunOf prefix) entry.held n entry.reads exit.reads
          (plain_known X layout prefix entry exit answer.by says (λ loads plan filed station f w. whole_or _ loads station f w) (files_end (asked words) layout prefix entry exit answer.by is answer.allowed)),
      λ layout prefix from is. known_fault layout (StateOf prefix) entry.held n entry.reads exit.reads
          (stop_known X layout prefix from entry exit answer.by says (λ loads station f w. whole_or _ loads station f w) (stop_end (asked words) layout prefix from entry exit answer.by is answer.allowed)),
      λ layout prefix is. known_fault layout (RunOf prefix) entry.held n entry.reads exit.reads
          (resume_known X layout prefix entry exit answer.by says (λ loads station f w. whole_or _ loads station f w) (resume_end (asked words) layout prefix entry exit answer.by is answer.allowed)),
      λ layout log is. known_fault layout NoFile entry.held n entry.reads exit.reads
          (frames_known X layout log entry exit answer.by says (λ loads station f w. whole_or _ loads station f w) (frames_end (asked words) layout log entry exit answer.by is answer.allowed)),
    )

-- a load that isn't held has its status
abbrev AbsentSays : ℕ → Loaded → Type 0
AbsentSays n l = (name : List ℕ) → l ≡ Absent name → IsUnreadOrMemory n

pub absent_says : (reads risen : ℕ) → Says AbsentSays reads risen
absent_says reads risen = record {
  memory = λ l name is. inr refl;
  rose = λ l rose name is. inl refl;
  absent = λ a name is. inl refl;
  fault = λ s g name is. cc;
}

known_missing : (layout : List ℕ) (outputs : ToWrite) (held : Option Files) (n : ℕ) → IfKnown (AreNamesFree layout outputs) layout held (AbsentSays n)
    → IfSome held (λ files. (name : List ℕ) → HasAbsentLoad layout outputs (Some files) name → IsUnreadOrMemory n)
known_missing layout outputs None n known = tt
known_missing layout outputs (Some files) n known = λ name has. known (Absent name) (record { network = has.0; judged = has.1; so = has.2.0; is = has.2.1 }) name refl

whole_absent : (X : Type 0) (loads : List (List Record)) (name : List ℕ) → Whole loads ≡ Absent name → X
whole_absent X loads name is = absurd (cc)

-- status 4 where a load isn't held
pub absent_loads_decide : DoAbsentLoadsDecide
absent_loads_decide words entry exit status answer =
    let says : Says AbsentSays entry.reads exit.reads = absent_says entry.reads exit.reads in
    let n : ℕ = status_of answer.by in
    rw answer.is (
      λ layout prefix is. known_missing layout (RunOf prefix) entry.held n
          (plain_known AbsentSays layout prefix entry exit answer.by says (λ loads plan filed name w. whole_absent _ loads name w) (files_end (asked words) layout prefix entry exit answer.by is answer.allowed)),
      λ layout prefix from is. known_missing layout (StateOf prefix) entry.held n
          (stop_known AbsentSays layout prefix from entry exit answer.by says (λ loads name w. whole_absent _ loads name w) (stop_end (asked words) layout prefix from entry exit answer.by is answer.allowed)),
      λ layout prefix is. known_missing layout (RunOf prefix) entry.held n
          (resume_known AbsentSays layout prefix entry exit answer.by says (λ loads name w. whole_absent _ loads name w) (resume_end (asked words) layout prefix entry exit answer.by is answer.allowed)),
      λ layout log is. known_missing layout NoFile entry.held n
          (frames_known AbsentSays layout log entry exit answer.by says (λ loads name w. whole_absent _ loads name w) (frames_end (asked words) layout log entry exit answer.by is answer.allowed)),
    )

-- whole loads, and no fault of the outside
abbrev WholeSays : ℕ → ℕ → ℕ → ℕ → ℕ → ℕ → ℕ → Loaded → Type 0
WholeSays reads read writes written faults faulted n l =
    (loads : List (List Record)) → l ≡ Whole loads → ¬ Rose reads read → ¬ Rose writes written → ¬ Rose faults faulted → IsDoneOrMemory n

whole_says : (reads read writes written faults faulted : ℕ) → Says (WholeSays reads read writes written faults faulted) reads read
whole_says reads read writes written faults faulted = record {
  memory = λ l loads is r w f. inr refl;
  rose = λ l rose loads is r w f. absurd (r rose);
  absent = λ a loads is r w f. cc;
  fault = λ s g loads is r w f. cc;
}

known_whole : (Q : Layout → Type 0) (layout : List ℕ) (held : Option Files) (X : Loaded → Type 0) (files : Files) (network : Layout) (loads : List (List Record)) → held ≡ Some files → IsJudged layout (Some files) (Ok network)
    → Q network → IsLoaded (Some files) network.stations (Whole loads) → IfKnown Q layout held X → X (Whole loads)
known_whole Q layout held X files network loads told good so is known =
    let all : IfKnown Q layout (Some files) X = rw told at known in all (Whole loads) (record { network = network; judged = good; so = so; is = is })

pub filed_whole : (files : List File) (IsRight : List ℕ → Type 0) (before after : Moment) (e : Ending) → IsFiledEnd files IsRight before after e → ¬ Rose before.writes after.writes → ¬ Rose before.faults after.faults → IsDoneOrMemory (status_of e)
filed_whole files IsRight before after ending.Done filed w f = inl refl
filed_whole files IsRight before after ending.Words filed w f = elim filed [ inl all ↦ absurd all.1.2 | inr some ↦ absurd some ]
filed_whole files IsRight before after ending.Layout filed w f = elim filed [ inl all ↦ absurd all.1.2 | inr some ↦ absurd some ]
filed_whole files IsRight before after ending.Load filed w f = elim filed [ inl all ↦ absurd all.1.2 | inr some ↦ absurd some ]
filed_whole files IsRight before after ending.Read filed w f = elim filed [ inl all ↦ absurd all.1.2 | inr some ↦ absurd some ]
filed_whole files IsRight before after ending.Write filed w f = elim filed [ inl all ↦ absurd (f all.1.2.1) | inr some ↦ absurd (w some.1) ]
filed_whole files IsRight before after ending.Memory filed w f = inr refl
filed_whole files IsRight before after ending.Probe filed w f = elim filed [ inl all ↦ absurd all.1.2 | inr some ↦ absurd some ]
filed_whole files IsRight before after ending.Log filed w f = elim filed [ inl all ↦ absurd all.1.2 | inr some ↦ absurd some ]
filed_whole files IsRight before after ending.Stranger filed w f = elim filed [ inl all ↦ absurd all.1.2 | inr some ↦ absurd some ]
filed_whole files IsRight before after ending.Unquiet filed w f = elim filed [ inl all ↦ absurd all.1.2 | inr some ↦ absurd some ]
filed_whole files IsRight before after ending.State filed w f = elim filed [ inl all ↦ absurd all.1.2 | inr some ↦ absurd some ]
filed_whole files IsRight before after ending.Output filed w f = elim filed [ inl all ↦ absurd all.1.2 | inr some ↦ absurd some ]

-- a run that nothing hinders is done
pub complete : (words : List (List ℕ)) (entry exit : Moment) (status : ℕ) → IsAnswer words entry exit status → IsUnhindered words entry exit → IsDoneOrMemory status
complete words entry exit status answer free =
    rw answer.is (known_whole (AreNamesFree free.layout (RunOf free.prefix)) free.layout entry.held (WholeSays entry.reads exit.reads entry.writes exit.writes entry.faults exit.faults (status_of answer.by)) free.files free.network free.loads free.told free.judged free.free free.loaded
    (plain_known (WholeSays entry.reads exit.reads entry.writes exit.writes entry.faults exit.faults) free.layout free.prefix entry exit answer.by (whole_says entry.reads exit.reads entry.writes exit.writes entry.faults exit.faults)
    (λ loads plan filed again is r w f. filed_whole (run_files free.prefix plan) (IsSummary plan) entry exit answer.by filed w f)
    (files_end (asked words) free.layout free.prefix entry exit answer.by free.asks answer.allowed)) free.loads refl free.reads free.writes free.faults)

abbrev pub TellingSays : ℕ → ℕ → ℕ → ℕ → ℕ → Loaded → Type 0
TellingSays reads read faults faulted n l = ¬ Rose reads read → ¬ Rose faults faulted → IsDoneOrMemory n

pub known_telling : (layout : List ℕ) (held : Option Files) (reads read faults faulted n : ℕ) → IfKnown AnyNetwork layout held (TellingSays reads read faults faulted n)
    → IfSome held (λ files. (network : Layout) → IsJudged layout (Some files) (Ok network) → ¬ Rose reads read → ¬ Rose faults faulted → IsDoneOrMemory n)
known_telling layout None reads read faults faulted n known = tt
known_telling layout (Some files) reads read faults faulted n known =
    λ network good. known (loaded files network.stations) (record { network = network; judged = good; so = tt; is = refl })

pub text_whole : (text : List ℕ) (before after : Moment) (e : Ending) → IsText text before after e → ¬ Rose before.faults after.faults → IsDoneOrMemory (status_of e)
text_whole text before after ending.Done written never = inl refl
text_whole text before after ending.Words written never = absurd written
text_whole text before after ending.Layout written never = absurd written
text_whole text before after ending.Load written never = absurd written
text_whole text before after ending.Read written never = absurd written
text_whole text before after ending.Write written never = absurd (never written.1)
text_whole text before after ending.Memory written never = inr refl
text_whole text before after ending.Probe written never = absurd written
text_whole text before after ending.Log written never = absurd written
text_whole text before after ending.Stranger written never = absurd written
text_whole text before after ending.Unquiet written never = absurd written
text_whole text before after ending.State written never = absurd written
text_whole text before after ending.Output written never = absurd written

pub early_told : (layout : List ℕ) (before after : Moment) (e : Ending) → IsEarly layout before after e → IfKnown AnyNetwork layout before.held (TellingSays before.reads after.reads before.faults after.faults (status_of e))
early_told layout before after ending.Done early = absurd early
early_told layout before after ending.Words early = absurd early
early_told layout before after ending.Layout early = known_faulty AnyNetwork layout before.held (TellingSays before.reads after.reads before.faults after.faults 2) early.0 early.1
early_told layout before after ending.Load early = absurd early
early_told layout before after ending.Read early =
    known_unread AnyNetwork layout before.held before.reads after.reads (TellingSays before.reads after.reads before.faults after.faults 4) (λ l rose r f. absurd (r rose)) early.0
early_told layout before after ending.Write early = absurd early
early_told layout before after ending.Memory early = always AnyNetwork layout before.held (TellingSays before.reads after.reads before.faults after.faults 6) (λ l r f. inr refl)
early_told layout before after ending.Probe early = absurd early
early_told layout before after ending.Log early = absurd early
early_told layout before after ending.Stranger early = absurd early
early_told layout before after ending.Unquiet early = absurd early
early_told layout before after ending.State early = absurd early
early_told layout before after ending.Output early = absurd early

pub telling_known : (Tells : Layout → List ℕ → Type 0) (layout : List ℕ) (before after : Moment) (e : Ending) → IsTellingEnd Tells layout before after e → IfKnown AnyNetwork layout before.held (TellingSays before.reads after.reads before.faults after.faults (status_of e))
telling_known Tells layout before after e h =
    elim h.1 [
      | inl early ↦ early_told layout before after e early
      | inr told ↦ always AnyNetwork layout before.held (TellingSays before.reads after.reads before.faults after.faults (status_of e)) (λ l r f. text_whole told.text before after e told.written f)
    ]

-- a form that only tells of a layout is done where nothing hinders it
pub tellings_are_complete : AreTellingsComplete
tellings_are_complete words entry exit status answer =
    rw answer.is (of_tellings (asked words) entry exit answer.by
    (λ Tells layout. IfSome entry.held (λ files. (network : Layout) → IsJudged layout (Some files) (Ok network) → ¬ Rose entry.reads exit.reads → ¬ Rose entry.faults exit.faults → IsDoneOrMemory (status_of answer.by)))
    (λ Tells layout end. known_telling layout entry.held entry.reads exit.reads entry.faults exit.faults (status_of answer.by) (telling_known Tells layout entry exit answer.by end)) answer.allowed)

pub texts_are_complete : AreTextsComplete
texts_are_complete words entry exit status answer =
    rw answer.is (of_texts (asked words) entry exit answer.by (λ text. ¬ Rose entry.faults exit.faults → IsDoneOrMemory (status_of answer.by)) (λ text end never. text_whole text entry exit answer.by end.0 never) answer.allowed)

-- demo is done where nothing hinders it
pub demos_are_complete : AreDemosComplete
demos_are_complete words entry exit status answer number workers is never =
    rw answer.is (by_demo (IsDoneOrMemory (status_of answer.by)) number entry exit answer.by (λ memory written. inr (ap status_of memory)) (λ text right written. text_whole text entry exit answer.by written never)
    (demo_end (asked words) number workers entry exit answer.by is answer.allowed))

words_load : ending.Load ≡ ending.Words → ⊥
words_load e = cc

load_unrun : ending.Load ≡ ending.Memory → ⊥
load_unrun e = cc

words_read : ending.Read ≡ ending.Words → ⊥
words_read e = cc

read_unrun : ending.Read ≡ ending.Memory → ⊥
read_unrun e = cc

load_said : (layout prefix : List ℕ) (entry exit : Moment) → IsPlainEnd layout prefix entry exit ending.Load → IsNetworkWith layout entry.held (λ network. IsLoadFaultSaid network entry exit)
load_said layout prefix entry exit h =
    by_way (IsNetworkWith layout entry.held (λ network. IsLoadFaultSaid network entry exit)) layout prefix entry exit ending.Load (λ early. absurd early) (λ taken. absurd taken.said) (λ unloaded. (unloaded.network, unloaded.judged, unloaded.said))
    (λ unrun. absurd (load_unrun unrun.0)) (λ run. elim run.filed [ inl all ↦ absurd all.1.2 | inr some ↦ absurd some ]) h

load_demo : (number : ℕ) (entry exit : Moment) → IsDemoEnd number entry exit ending.Load → ⊥
load_demo number entry exit h = by_demo ⊥ number entry exit ending.Load (λ is written. load_unrun is) (λ text right written. written) h

load_probe : (told : Report) (layout : List ℕ) (from to : ℕ) (taps : List (List ℕ)) (entry exit : Moment) → IsProbeEnd told layout from to taps entry exit ending.Load → IsNetworkWith layout entry.held (λ network. IsLoadFaultSaid network entry exit)
load_probe told layout from to taps entry exit h =
    by_probe (IsNetworkWith layout entry.held (λ network. IsLoadFaultSaid network entry exit)) told layout from to taps entry exit ending.Load (λ early. absurd early) (λ missed. absurd missed.missed)
    (λ unprobed. (unprobed.network, unprobed.judged, unprobed.said)) (λ probed. absurd probed.written) h

load_meter : (log : List ℕ) (entry exit : Moment) → IsMeterEnd log entry exit ending.Load → ⊥
load_meter log entry exit h = by_meter ⊥ log entry exit ending.Load (λ unmetered. unmetered) (λ metered. metered.written) h

load_picture : (layout log : List ℕ) (from to : ℕ) (entry exit : Moment) → IsPictureEnd layout log from to entry exit ending.Load → ⊥
load_picture layout log from to entry exit h =
    by_picture ⊥ layout log from to entry exit ending.Load (λ early. early) (λ unlogged. unlogged.said) (λ drawn strange. strange) (λ drawn pictured. pictured.text) h

load_frames : (layout log : List ℕ) (entry exit : Moment) → IsFramesEnd layout log entry exit ending.Load → IsNetworkWith layout entry.held (λ network. IsLoadFaultSaid network entry exit)
load_frames layout log entry exit h =
    by_frames (IsNetworkWith layout entry.held (λ network. IsLoadFaultSaid network entry exit)) layout log entry exit ending.Load (λ early. absurd early) (λ unqueued. (unqueued.network, unqueued.judged, unqueued.said))
    (λ untabled. absurd untabled.said) (λ d unplanned. absurd unplanned) (λ d tabled. absurd tabled.text) h

load_faulty_of : (o : Option Asked) (entry exit : Moment) → IsEndOf o entry exit ending.Load → IsLoadedWith o (λ layout. IsNetworkWith layout entry.held (λ network. IsLoadFaultSaid network entry exit))
load_faulty_of None entry exit h = absurd (words_load h.0)
load_faulty_of (Some Help) entry exit h = absurd h.0
load_faulty_of (Some Version) entry exit h = absurd h.0
load_faulty_of (Some (Check layout)) entry exit h = elim h.1 [ inl early ↦ absurd early | inr checked ↦ absurd checked.written ]
load_faulty_of (Some (Slack layout)) entry exit h = elim h.1 [ inl early ↦ absurd early | inr checked ↦ absurd checked.written ]
load_faulty_of (Some (Plain layout prefix)) entry exit h = load_said layout prefix entry exit h
load_faulty_of (Some (Run layout prefix workers)) entry exit h = load_said layout prefix entry exit h
load_faulty_of (Some (Stop layout prefix from)) entry exit h =
    by_stop (IsNetworkWith layout entry.held (λ network. IsLoadFaultSaid network entry exit)) layout prefix from entry exit ending.Load (λ early. absurd early) (λ taken. absurd taken.said) (λ unloaded. (unloaded.network, unloaded.judged, unloaded.said)) (λ unrun. absurd (load_unrun unrun.0)) (λ un. absurd un.said) (λ ran. elim ran.filed [ inl all ↦ absurd all.1.2 | inr some ↦ absurd some ]) h
load_faulty_of (Some (Resume layout prefix)) entry exit h =
    by_resume (IsNetworkWith layout entry.held (λ network. IsLoadFaultSaid network entry exit)) layout prefix entry exit ending.Load (λ early. absurd early) (λ taken. absurd taken.said) (λ unloaded. (unloaded.network, unloaded.judged, unloaded.said)) (λ unrun. absurd (load_unrun unrun.0)) (λ un. absurd un.said) (λ ran. elim ran.filed [ inl all ↦ absurd all.1.2 | inr some ↦ absurd some ]) h
load_faulty_of (Some (Demo number workers)) entry exit h = absurd (load_demo number entry exit h)
load_faulty_of (Some (Probe told layout from to taps)) entry exit h = load_probe told layout from to taps entry exit h
load_faulty_of (Some (Meter log)) entry exit h = absurd (load_meter log entry exit h)
load_faulty_of (Some (Picture layout log from to)) entry exit h = absurd (load_picture layout log from to entry exit h)
load_faulty_of (Some (Frames layout log)) entry exit h = load_frames layout log entry exit h

-- status 3 comes of a load with a fault
pub load_faults_are_said : AreLoadFaultsSaid
load_faults_are_said words entry exit status answer is = load_faulty_of (asked words) entry exit (end_at words entry exit status 3 answer is)

unread_said : (layout prefix : List ℕ) (entry exit : Moment) → IsPlainEnd layout prefix entry exit ending.Read → IsInputFaultSaid layout entry exit
unread_said layout prefix entry exit h =
    by_way (IsInputFaultSaid layout entry exit) layout prefix entry exit ending.Read (λ early. inl early) (λ taken. absurd taken.said) (λ unloaded. inr (unloaded.network, unloaded.judged, unloaded.said)) (λ unrun. absurd (read_unrun unrun.0))
    (λ run. elim run.filed [ inl all ↦ absurd all.1.2 | inr some ↦ absurd some ]) h

unread_demo : (number : ℕ) (entry exit : Moment) → IsDemoEnd number entry exit ending.Read → ⊥
unread_demo number entry exit h = by_demo ⊥ number entry exit ending.Read (λ is written. read_unrun is) (λ text right written. written) h

unread_probe : (told : Report) (layout : List ℕ) (from to : ℕ) (taps : List (List ℕ)) (entry exit : Moment) → IsProbeEnd told layout from to taps entry exit ending.Read → IsInputFaultSaid layout entry exit
unread_probe told layout from to taps entry exit h =
    by_probe (IsInputFaultSaid layout entry exit) told layout from to taps entry exit ending.Read (λ early. inl early) (λ missed. absurd missed.missed) (λ unprobed. inr (unprobed.network, unprobed.judged, unprobed.said))
    (λ probed. absurd probed.written) h

unread_meter : (log : List ℕ) (entry exit : Moment) → IsMeterEnd log entry exit ending.Read → IsUnreadSaid log entry exit
unread_meter log entry exit h = by_meter (IsUnreadSaid log entry exit) log entry exit ending.Read (λ unmetered. unmetered) (λ metered. absurd metered.written) h

unread_picture : (layout log : List ℕ) (from to : ℕ) (entry exit : Moment) → IsPictureEnd layout log from to entry exit ending.Read → IsPictureUnreadSaid layout log entry exit
unread_picture layout log from to entry exit h =
    by_picture (IsPictureUnreadSaid layout log entry exit) layout log from to entry exit ending.Read (λ early. inl early) (λ unlogged. inr (unlogged.network, unlogged.judged, unlogged.said)) (λ drawn strange. absurd strange)
    (λ drawn pictured. absurd pictured.text) h

unread_frames : (layout log : List ℕ) (entry exit : Moment) → IsFramesEnd layout log entry exit ending.Read → IsTableFaultSaid layout log entry exit
unread_frames layout log entry exit h =
    by_frames (IsTableFaultSaid layout log entry exit) layout log entry exit ending.Read (λ early. inl (inl early)) (λ unqueued. inl (inr (unqueued.network, unqueued.judged, unqueued.said)))
    (λ untabled. inr (untabled.plan, untabled.planned, untabled.said)) (λ d unplanned. absurd unplanned) (λ d tabled. absurd tabled.text) h

unread_of : (o : Option Asked) (entry exit : Moment) → IsEndOf o entry exit ending.Read → IsReadFaultSaid o entry exit
unread_of None entry exit h = absurd (words_read h.0)
unread_of (Some Help) entry exit h = absurd h.0
unread_of (Some Version) entry exit h = absurd h.0
unread_of (Some (Check layout)) entry exit h = elim h.1 [ inl early ↦ early | inr checked ↦ absurd checked.written ]
unread_of (Some (Slack layout)) entry exit h = elim h.1 [ inl early ↦ early | inr checked ↦ absurd checked.written ]
unread_of (Some (Plain layout prefix)) entry exit h = unread_said layout prefix entry exit h
unread_of (Some (Run layout prefix workers)) entry exit h = unread_said layout prefix entry exit h
unread_of (Some (Stop layout prefix from)) entry exit h =
    by_stop (IsInputFaultSaid layout entry exit) layout prefix from entry exit ending.Read (λ early. inl early) (λ taken. absurd taken.said) (λ unloaded. inr (unloaded.network, unloaded.judged, unloaded.said)) (λ unrun. absurd (read_unrun unrun.0)) (λ un. absurd un.said) (λ ran. elim ran.filed [ inl all ↦ absurd all.1.2 | inr some ↦ absurd some ]) h
unread_of (Some (Resume layout prefix)) entry exit h =
    by_resume (IsResumeFaultSaid layout prefix entry exit) layout prefix entry exit ending.Read (λ early. inl (inl early)) (λ taken. absurd taken.said) (λ unloaded. inl (inr (unloaded.network, unloaded.judged, unloaded.said))) (λ unrun. absurd (read_unrun unrun.0)) (λ un. inr (un.plan, un.planned, un.said)) (λ ran. elim ran.filed [ inl all ↦ absurd all.1.2 | inr some ↦ absurd some ]) h
unread_of (Some (Demo number workers)) entry exit h = unread_demo number entry exit h
unread_of (Some (Probe told layout from to taps)) entry exit h = unread_probe told layout from to taps entry exit h
unread_of (Some (Meter log)) entry exit h = unread_meter log entry exit h
unread_of (Some (Picture layout log from to)) entry exit h = unread_picture layout log from to entry exit h
unread_of (Some (Frames layout log)) entry exit h = unread_frames layout log entry exit h

-- status 4 comes of a file that isn't held or of a failed read
pub read_faults_are_said : AreReadFaultsSaid
read_faults_are_said words entry exit status answer is = unread_of (asked words) entry exit (end_at words entry exit status 4 answer is)
