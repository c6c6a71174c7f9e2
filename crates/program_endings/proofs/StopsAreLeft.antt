-- What stop and resume leave where they aren't done, and when they are.
use Rattle.std.proofs.Common.{◌≡◌, ◌⊎◌, ℕ, Option, None, Some, List, refl, inl, inr}
use Rattle.capture_file.specs.declared.entries.Record.{Record}
use Rattle.layout.specs.declared.lines.Layout.{Layout}
use Rattle.load_files.specs.Loaded.{Loaded, Whole}
use Rattle.load_plan.specs.declared.plan.Plan.{Plan}
use Rattle.outside.specs.Files.{Files, Rose}
use Rattle.outside.specs.declared.file.File.{File}
use Rattle.program_texts.specs.Texts.{name_of_state}
use Rattle.program_words.specs.Requests.{asked}
use Rattle.quiet_state.specs.declared.state.NetState.{NetState}
use Rattle.net_step.specs.Stops.{IsFirstQuiet}
use Rattle.run_endings.specs.declared.endings.Ending.{Ending}
use Rattle.run_endings.specs.declared.endings.Ending.TheVariants as ending
use Rattle.program_endings.specs.CheckpointFiles.{HasState}
use Rattle.run_endings.specs.Answers.{status_of}
use Rattle.program_endings.specs.Endings.{HasResumed, HasStopped, IsResumeEnd, IsStopEnd, IsUnstated}
use Rattle.run_endings.specs.Endings.{IsFiledEnd, IsPlanned}
use Rattle.run_endings.specs.Moments.{Moment}
use Rattle.program_endings.specs.StoppedRuns.{IsResumedSummary, IsStopLine, resumed_files, state_files}
use Rattle.program_endings.specs.Statuses.{IsDoneOrMemory, IsPlannedWith, IsUnbegun}
use Rattle.run_endings.specs.Writing.{put_all}
use Rattle.program_endings.specs.StopLaws.{AreStopFilesWhole, AreStopsBroken, AreStopsComplete, AreStopsRefused, AreStopsSilent, IsResumeBroken, IsStopBroken, IsWritingBroken}
use Rattle.program_endings.proofs.EndingsByStatus.{by_resume, by_stop, end_at, resume_end, stop_end}
use Rattle.program_endings.proofs.LayoutDecidesStatus.{unread_status}
use Rattle.run_endings.specs.WrittenNames.{AreNamesFree, RunOf, StateOf}
use Rattle.program_endings.proofs.LoadsDecideStatus.{IfKnown, Says as SaysOfLoads, early_known, filed_whole, of_planned, taken_known, unloaded_known}
use Rattle.program_endings.proofs.StopsAreTold.{FreeAnd, IfPlanned, absent_front, always_planned, faultless, never_planned, told_faulty, unrun_status}

write_unrun : ending.Write ≡ ending.Memory → ⊥
write_unrun e = cc

-- a failed write
written_broken : (files : List File) (IsRight : List ℕ → Type 0) (before after : Moment) → IsFiledEnd files IsRight before after ending.Write → IsWritingBroken files IsRight before after
written_broken files IsRight before after filed =
    elim filed [ inl all ↦ inr (record { held = all.0; text = all.1.0; right = all.1.1; cut = all.1.2.0 }) | inr some ↦ inl (some.0, some.2) ]

-- want of memory
memory_broken : (files : List File) (IsRight : List ℕ → Type 0) (before after : Moment) → IsFiledEnd files IsRight before after ending.Memory → IsWritingBroken files IsRight before after
memory_broken files IsRight before after filed =
    elim filed [ inl all ↦ inr (record { held = all.0; text = all.1.0; right = all.1.1; cut = all.1.2 }) | inr some ↦ inl (some.0, some.1) ]

stop_written : (layout prefix : List ℕ) (from : ℕ) (before after : Moment) → IsStopEnd layout prefix from before after ending.Write → HasStopped layout prefix from before after ending.Write
stop_written layout prefix from before after h =
    by_stop (HasStopped layout prefix from before after ending.Write) layout prefix from before after ending.Write (λ early. absurd early) (λ taken. absurd taken.said) (λ unloaded. absurd unloaded.said) (λ unrun. absurd (write_unrun unrun.0)) (λ un. absurd un.said) (λ ran. ran) h

resume_written : (layout prefix : List ℕ) (before after : Moment) → IsResumeEnd layout prefix before after ending.Write → HasResumed layout prefix before after ending.Write
resume_written layout prefix before after h =
    by_resume (HasResumed layout prefix before after ending.Write) layout prefix before after ending.Write (λ early. absurd early) (λ taken. absurd taken.said) (λ unloaded. absurd unloaded.said) (λ unrun. absurd (write_unrun unrun.0)) (λ un. absurd un.said) (λ ran. ran) h

stop_left : (layout prefix : List ℕ) (from : ℕ) (before after : Moment) (e : Ending) (ran : HasStopped layout prefix from before after e) → IsWritingBroken (state_files prefix ran.plan ran.t) (IsStopLine ran.t) before after
    → IsStopBroken layout prefix from before after
stop_left layout prefix from before after e ran left = record { plan = ran.plan; planned = ran.planned; t = ran.t; first = ran.first; left = left }

resume_left : (layout prefix : List ℕ) (before after : Moment) (e : Ending) (ran : HasResumed layout prefix before after e) → IsWritingBroken (resumed_files prefix ran.plan ran.state) (IsResumedSummary ran.plan ran.state) before after
    → IsResumeBroken layout prefix before after
resume_left layout prefix before after e ran left = record { plan = ran.plan; planned = ran.planned; state = ran.state; read = ran.read; left = left }

pub stops_are_broken : AreStopsBroken
stops_are_broken words entry exit status answer five = (
  λ layout prefix from is.
      let ran = stop_written layout prefix from entry exit (stop_end (asked words) layout prefix from entry exit ending.Write is (end_at words entry exit status 5 answer five)) in
      stop_left layout prefix from entry exit ending.Write ran (written_broken (state_files prefix ran.plan ran.t) (IsStopLine ran.t) entry exit ran.filed),
  λ layout prefix is.
      let ran = resume_written layout prefix entry exit (resume_end (asked words) layout prefix entry exit ending.Write is (end_at words entry exit status 5 answer five)) in
      resume_left layout prefix entry exit ending.Write ran (written_broken (resumed_files prefix ran.plan ran.state) (IsResumedSummary ran.plan ran.state) entry exit ran.filed),
)

stop_memory : (layout prefix : List ℕ) (from : ℕ) (before after : Moment) → IsStopEnd layout prefix from before after ending.Memory → IsUnbegun before after ⊎ IsStopBroken layout prefix from before after
stop_memory layout prefix from before after h =
    elim h [
      | inl none ↦ elim none [ inl early ↦ inl (early.1, early.0) | inr later ↦ elim later [ inl taken ↦ inl (taken.1, taken.0.said) | inr last ↦ elim last [ inl unloaded ↦ inl (unloaded.1, unloaded.0.said) | inr unrun ↦ inl (unrun.1, unrun.2) ] ] ]
      | inr last ↦ elim last [
        | inl un ↦ absurd un.said
        | inr ran ↦ inr (stop_left layout prefix from before after ending.Memory ran (memory_broken (state_files prefix ran.plan ran.t) (IsStopLine ran.t) before after ran.filed))
      ]
    ]

resume_memory : (layout prefix : List ℕ) (before after : Moment) → IsResumeEnd layout prefix before after ending.Memory → IsUnbegun before after ⊎ IsResumeBroken layout prefix before after
resume_memory layout prefix before after h =
    elim h [
      | inl none ↦ elim none [ inl early ↦ inl (early.1, early.0) | inr later ↦ elim later [ inl taken ↦ inl (taken.1, taken.0.said) | inr last ↦ elim last [ inl unloaded ↦ inl (unloaded.1, unloaded.0.said) | inr unrun ↦ inl (unrun.1, unrun.2) ] ] ]
      | inr last ↦ elim last [
        | inl un ↦ inl (un.held, un.said)
        | inr ran ↦ inr (resume_left layout prefix before after ending.Memory ran (memory_broken (resumed_files prefix ran.plan ran.state) (IsResumedSummary ran.plan ran.state) before after ran.filed))
      ]
    ]

pub stops_are_refused : AreStopsRefused
stops_are_refused words entry exit status answer six = (
  λ layout prefix from is. stop_memory layout prefix from entry exit (stop_end (asked words) layout prefix from entry exit ending.Memory is (end_at words entry exit status 6 answer six)),
  λ layout prefix is. resume_memory layout prefix entry exit (resume_end (asked words) layout prefix entry exit ending.Memory is (end_at words entry exit status 6 answer six)),
)

silent_of : (files : List File) (IsRight : List ℕ → Type 0) (before after : Moment) → ¬ Rose before.faults after.faults → IsFiledEnd files IsRight before after ending.Write → after.written ≡ before.written
silent_of files IsRight before after never filed = elim filed [ inl all ↦ absurd (never all.1.2.1) | inr some ↦ some.2 ]

pub stops_are_silent : AreStopsSilent
stops_are_silent words entry exit status answer five never = (
  λ layout prefix from is.
      let ran = stop_written layout prefix from entry exit (stop_end (asked words) layout prefix from entry exit ending.Write is (end_at words entry exit status 5 answer five)) in
      silent_of (state_files prefix ran.plan ran.t) (IsStopLine ran.t) entry exit never ran.filed,
  λ layout prefix is.
      let ran = resume_written layout prefix entry exit (resume_end (asked words) layout prefix entry exit ending.Write is (end_at words entry exit status 5 answer five)) in
      silent_of (resumed_files prefix ran.plan ran.state) (IsResumedSummary ran.plan ran.state) entry exit never ran.filed,
)

whole_of : (files : List File) (IsRight : List ℕ → Type 0) (before after : Moment) → ¬ Rose before.writes after.writes → IsFiledEnd files IsRight before after ending.Write → after.held ≡ put_all files before.held
whole_of files IsRight before after never filed = elim filed [ inl all ↦ all.0 | inr some ↦ absurd (never some.1) ]

pub stop_files_are_whole : AreStopFilesWhole
stop_files_are_whole words entry exit status answer five never = (
  λ layout prefix from is.
      let ran = stop_written layout prefix from entry exit (stop_end (asked words) layout prefix from entry exit ending.Write is (end_at words entry exit status 5 answer five)) in
      (ran.plan, ran.planned, (ran.t, ran.first, whole_of (state_files prefix ran.plan ran.t) (IsStopLine ran.t) entry exit never ran.filed)),
  λ layout prefix is.
      let ran = resume_written layout prefix entry exit (resume_end (asked words) layout prefix entry exit ending.Write is (end_at words entry exit status 5 answer five)) in
      (ran.plan, ran.planned, (ran.state, ran.read, whole_of (resumed_files prefix ran.plan ran.state) (IsResumedSummary ran.plan ran.state) entry exit never ran.filed)),
)

-- where the loads are whole and no read failed the status is 0 or 6
abbrev pub WholeDone : ℕ → ℕ → ℕ → Loaded → Type 0
WholeDone reads risen n l = (loads : List (List Record)) → l ≡ Whole loads → ¬ Rose reads risen → IsDoneOrMemory n

pub whole_done : (reads risen : ℕ) → SaysOfLoads (WholeDone reads risen) reads risen
whole_done reads risen = record {
  memory = λ l loads is r. inr refl;
  rose = λ l rose loads is r. absurd (r rose);
  absent = λ a loads is r. cc;
  fault = λ s g loads is r. cc;
}

pub done_planned : (Q : Layout → Type 0) (layout : List ℕ) (held : Option Files) (P : Files → Plan → Type 0) (n reads risen : ℕ) → ((files : Files) (plan : Plan) → P files plan → Q plan.layout) → ¬ Rose reads risen
    → IfKnown Q layout held (WholeDone reads risen n) → IfPlanned layout held P (IsDoneOrMemory n)
done_planned Q layout None P n reads risen so never known = tt
done_planned Q layout (Some files) P n reads risen so never known =
    λ has. known (Whole has.1.is.loads) (record { network = has.1.network; judged = has.1.judged; so = of_planned Q layout (Some files) has.0 has.1 (so files has.0 has.2); is = has.1.is.loaded }) has.1.is.loads refl never

abbrev IsStoppable : ℕ → Files → Plan → Type 0
IsStoppable from files plan = (t : ℕ) × IsFirstQuiet plan from t

abbrev IsStatedIn : List ℕ → Files → Plan → Type 0
IsStatedIn prefix files plan = (state : NetState) × HasState plan (name_of_state prefix) (Some files) state

abbrev pub IsStated : List ℕ → List ℕ → Files → Plan → Type 0
IsStated layout prefix = FreeAnd layout (RunOf prefix) (IsStatedIn prefix)

unstated_done : (layout prefix : List ℕ) (plan : Plan) (before after : Moment) (e : Ending) → IsPlanned layout before.held plan → ¬ Rose before.reads after.reads → IsUnstated plan (name_of_state prefix) before after e
    → IfPlanned layout before.held (IsStated layout prefix) (IsDoneOrMemory (status_of e))
unstated_done layout prefix plan before after ending.Done planned never said = absurd said
unstated_done layout prefix plan before after ending.Words planned never said = absurd said
unstated_done layout prefix plan before after ending.Layout planned never said = absurd said
unstated_done layout prefix plan before after ending.Load planned never said = absurd said
unstated_done layout prefix plan before after ending.Read planned never said =
    unread_status (IsDoneOrMemory 4) (name_of_state prefix) before.held before.reads after.reads (λ files. IsPlannedWith layout (Some files) (λ p. IsStated layout prefix files p))
    (λ files absent has. absent_front (name_of_state prefix) files has.2.1.1.octets absent has.2.1.1.read) (λ rose. absurd (never rose)) said.0
unstated_done layout prefix plan before after ending.Write planned never said = absurd said
unstated_done layout prefix plan before after ending.Memory planned never said = always_planned layout before.held (IsStated layout prefix) (IsDoneOrMemory 6) (inr refl)
unstated_done layout prefix plan before after ending.Probe planned never said = absurd said
unstated_done layout prefix plan before after ending.Log planned never said = absurd said
unstated_done layout prefix plan before after ending.Stranger planned never said = absurd said
unstated_done layout prefix plan before after ending.Unquiet planned never said = absurd said
unstated_done layout prefix plan before after ending.State planned never said =
    never_planned layout before.held (IsStated layout prefix) (IsDoneOrMemory 10) plan planned
    (λ files told has. faultless plan (name_of_state prefix) files has.1.0 said.0 has.1.1 (told_faulty plan (name_of_state prefix) before.held files said.0 told said.1))
unstated_done layout prefix plan before after ending.Output planned never said = absurd said

-- resume is done where nothing hinders it
pub resume_whole : (layout prefix : List ℕ) (entry exit : Moment) (e : Ending) → ¬ Rose entry.reads exit.reads → ¬ Rose entry.writes exit.writes → ¬ Rose entry.faults exit.faults → IsResumeEnd layout prefix entry exit e
    → IfPlanned layout entry.held (IsStated layout prefix) (IsDoneOrMemory (status_of e))
resume_whole layout prefix entry exit e r w f h =
    let P : Files → Plan → Type 0 = IsStated layout prefix in
    let n : ℕ = status_of e in
    let X : Type 0 = IsDoneOrMemory n in
    by_resume (IfPlanned layout entry.held P X) layout prefix entry exit e
    (λ early. done_planned (AreNamesFree layout (RunOf prefix)) layout entry.held P n entry.reads exit.reads (λ files plan has. has.0) r (early_known (AreNamesFree layout (RunOf prefix)) (WholeDone entry.reads exit.reads) layout entry exit (whole_done entry.reads exit.reads) e early))
    (λ taken. done_planned (AreNamesFree layout (RunOf prefix)) layout entry.held P n entry.reads exit.reads (λ files plan has. has.0) r (taken_known (WholeDone entry.reads exit.reads) layout (RunOf prefix) entry exit (whole_done entry.reads exit.reads) taken.network e taken.judged taken.said))
    (λ unloaded. done_planned (AreNamesFree layout (RunOf prefix)) layout entry.held P n entry.reads exit.reads (λ files plan has. has.0) r (unloaded_known (AreNamesFree layout (RunOf prefix)) (WholeDone entry.reads exit.reads) layout entry exit (whole_done entry.reads exit.reads) unloaded.network e unloaded.judged unloaded.free unloaded.said))
    (λ unrun. always_planned layout entry.held P X (inr (unrun_status entry exit e unrun)))
    (λ un. unstated_done layout prefix un.plan entry exit e un.planned r un.said)
    (λ ran. always_planned layout entry.held P X (filed_whole (resumed_files prefix ran.plan ran.state) (IsResumedSummary ran.plan ran.state) entry exit e ran.filed w f)) h

pub stops_are_complete : AreStopsComplete
stops_are_complete words entry exit status answer r w f = (
  λ layout prefix from is.
      let P : Files → Plan → Type 0 = FreeAnd layout (StateOf prefix) (IsStoppable from) in
      let n : ℕ = status_of answer.by in
      let X : Type 0 = IsDoneOrMemory n in
      rw answer.is (by_stop (IfPlanned layout entry.held P X) layout prefix from entry exit answer.by
      (λ early. done_planned (AreNamesFree layout (StateOf prefix)) layout entry.held P n entry.reads exit.reads (λ files plan has. has.0) r (early_known (AreNamesFree layout (StateOf prefix)) (WholeDone entry.reads exit.reads) layout entry exit (whole_done entry.reads exit.reads) answer.by early))
      (λ taken. done_planned (AreNamesFree layout (StateOf prefix)) layout entry.held P n entry.reads exit.reads (λ files plan has. has.0) r (taken_known (WholeDone entry.reads exit.reads) layout (StateOf prefix) entry exit (whole_done entry.reads exit.reads) taken.network answer.by taken.judged taken.said))
      (λ unloaded. done_planned (AreNamesFree layout (StateOf prefix)) layout entry.held P n entry.reads exit.reads (λ files plan has. has.0) r (unloaded_known (AreNamesFree layout (StateOf prefix)) (WholeDone entry.reads exit.reads) layout entry exit (whole_done entry.reads exit.reads) unloaded.network answer.by unloaded.judged unloaded.free unloaded.said))
      (λ unrun. always_planned layout entry.held P X (inr (unrun_status entry exit answer.by unrun)))
      (λ un. never_planned layout entry.held P X un.plan un.planned (λ files told has. un.never has.1.0 has.1.1.reached has.1.1.quiet))
      (λ ran. always_planned layout entry.held P X (filed_whole (state_files prefix ran.plan ran.t) (IsStopLine ran.t) entry exit answer.by ran.filed w f))
      (stop_end (asked words) layout prefix from entry exit answer.by is answer.allowed)),
  λ layout prefix is.
      rw answer.is (resume_whole layout prefix entry exit answer.by r w f (resume_end (asked words) layout prefix entry exit answer.by is answer.allowed)),
)
