-- Status 12 is that of a file to be written that has the name of an input.
use Rattle.std.proofs.Common.{◌≡◌, ℕ, Option, None, Some, Ok, Err, List, refl, ◌∙◌, inl, inr, sym}
use Rattle.std.specs.Prelude.{IfSome}
use Rattle.layout.specs.declared.lines.Layout.{Layout}
use Rattle.layout_file.specs.declared.fault.LayoutFault.{LayoutFault}
use Rattle.load_plan.specs.declared.plan.Plan.{Plan}
use Rattle.outside.specs.Files.{Files}
use Rattle.program_words.specs.Requests.{Asked, asked, Check, Slack, Plain, Run, Stop, Resume, Demo, Probe, Meter, Picture, Frames, Help, Version}
use Rattle.run_endings.specs.declared.endings.Ending.{Ending}
use Rattle.run_endings.specs.declared.endings.Ending.TheVariants as ending
use Rattle.run_endings.specs.Moments.{Moment}
use Rattle.program_endings.specs.Answers.{IsEndOf}
use Rattle.run_endings.specs.Answers.{status_of}
use Rattle.run_endings.specs.Endings.{IsEarly, IsJudged, IsPlainEnd, IsPlanned, IsTakenEnd}
use Rattle.program_endings.specs.Endings.{IsResumeEnd, IsStopEnd}
use Rattle.program_endings.specs.Statuses.{HasTakenName, IsFaultStatus, IsNetworkWith, IsTakenNameSaid, IsWritingWith}
use Rattle.program_endings.specs.OutputLaws.{AreOutputFaultsSaid, DoOutputFaultsDecide}
use Rattle.run_endings.specs.WrittenNames.{AreNamesFree, RunOf, StateOf, ToWrite, NoFile}
use Rattle.program_endings.proofs.EndingsByStatus.{by_demo, by_meter, by_picture, by_probe, by_resume, by_stop, end_at, files_end, resume_end, stop_end, by_frames}
use Rattle.run_endings.proofs.WaysOfEnding.{by_way}
use Rattle.program_endings.proofs.LayoutDecidesStatus.{absent_unjudged, good_or_faulty, some_of, unread_status}
use Rattle.program_endings.proofs.LoadsDecideStatus.{of_planned, taken_or_free, no_names}
use Rattle.program_endings.proofs.StopsAreTold.{unrun_status}

-- X holds where a store tells a layout without fault, and a file to be written has the name of an input
abbrev IfTaken : List ℕ → ToWrite → Option Files → Type 0 → Type 0
IfTaken layout outputs held X = IfSome held (λ files. HasTakenName layout outputs (Some files) → X)

always_taken : (layout : List ℕ) (outputs : ToWrite) (held : Option Files) (X : Type 0) → X → IfTaken layout outputs held X
always_taken layout outputs held X x = some_of held _ (λ files has. x)

-- where no file to be written has the name of an input
never_taken : (layout : List ℕ) (outputs : ToWrite) (held : Option Files) (X : Type 0) (network : Layout) → IsJudged layout held (Ok network) → AreNamesFree layout outputs network → IfTaken layout outputs held X
never_taken layout outputs None X network judged free = tt
never_taken layout outputs (Some files) X network judged free = λ has. absurd (taken_or_free layout outputs files has.0 network has.2.0 has.1 judged has.2.1 free)

-- where the layout has a fault
faulty_taken : (layout : List ℕ) (outputs : ToWrite) (held : Option Files) (X : Type 0) (fault : LayoutFault) → IsJudged layout held (Err fault) → IfTaken layout outputs held X
faulty_taken layout outputs None X fault judged = tt
faulty_taken layout outputs (Some files) X fault judged = λ has. absurd (good_or_faulty layout files has.0 fault has.1 judged)

module _ (layout : List ℕ) (outputs : ToWrite) (before after : Moment) where
  early_taken : (e : Ending) → IsEarly layout before after e → IfTaken layout outputs before.held (IsFaultStatus 12 (status_of e) before.reads after.reads)
  early_taken ending.Done early = absurd early
  early_taken ending.Words early = absurd early
  early_taken ending.Layout early = faulty_taken layout outputs before.held (IsFaultStatus 12 2 before.reads after.reads) early.0 early.1
  early_taken ending.Load early = absurd early
  early_taken ending.Read early =
      unread_status (IsFaultStatus 12 4 before.reads after.reads) layout before.held before.reads after.reads (λ files. HasTakenName layout outputs (Some files))
      (λ files absent has. absent_unjudged layout (Some files) (Ok has.0) absent has.1) (λ rose. inr (inr (refl, rose))) early.0
  early_taken ending.Write early = absurd early
  early_taken ending.Memory early = always_taken layout outputs before.held (IsFaultStatus 12 6 before.reads after.reads) (inr (inl refl))
  early_taken ending.Probe early = absurd early
  early_taken ending.Log early = absurd early
  early_taken ending.Stranger early = absurd early
  early_taken ending.Unquiet early = absurd early
  early_taken ending.State early = absurd early
  early_taken ending.Output early = absurd early

  said_taken : (network : Layout) (e : Ending) → IsTakenEnd layout outputs network before after e → IfTaken layout outputs before.held (IsFaultStatus 12 (status_of e) before.reads after.reads)
  said_taken network ending.Done said = absurd said
  said_taken network ending.Words said = absurd said
  said_taken network ending.Layout said = absurd said
  said_taken network ending.Load said = absurd said
  said_taken network ending.Read said = absurd said
  said_taken network ending.Write said = absurd said
  said_taken network ending.Memory said = always_taken layout outputs before.held (IsFaultStatus 12 6 before.reads after.reads) (inr (inl refl))
  said_taken network ending.Probe said = absurd said
  said_taken network ending.Log said = absurd said
  said_taken network ending.Stranger said = absurd said
  said_taken network ending.Unquiet said = absurd said
  said_taken network ending.State said = absurd said
  said_taken network ending.Output said = always_taken layout outputs before.held (IsFaultStatus 12 12 before.reads after.reads) (inl refl)

  unrun_taken : (e : Ending) → status_of e ≡ 6 → IfTaken layout outputs before.held (IsFaultStatus 12 (status_of e) before.reads after.reads)
  unrun_taken e six = always_taken layout outputs before.held (IsFaultStatus 12 (status_of e) before.reads after.reads) (inr (inl six))

  planned_taken : (e : Ending) (plan : Plan) (planned : IsPlanned layout before.held plan) → AreNamesFree layout outputs plan.layout → IfTaken layout outputs before.held (IsFaultStatus 12 (status_of e) before.reads after.reads)
  planned_taken e plan planned free =
      never_taken layout outputs before.held (IsFaultStatus 12 (status_of e) before.reads after.reads) planned.network planned.judged (of_planned (AreNamesFree layout outputs) layout before.held plan planned free)

plain_taken : (layout prefix : List ℕ) (before after : Moment) (e : Ending) → IsPlainEnd layout prefix before after e → IfTaken layout (RunOf prefix) before.held (IsFaultStatus 12 (status_of e) before.reads after.reads)
plain_taken layout prefix before after e h =
    let X : Type 0 = IsFaultStatus 12 (status_of e) before.reads after.reads in
    by_way (IfTaken layout (RunOf prefix) before.held X) layout prefix before after e (early_taken layout (RunOf prefix) before after e) (λ taken. said_taken layout (RunOf prefix) before after taken.network e taken.said)
    (λ unloaded. never_taken layout (RunOf prefix) before.held X unloaded.network unloaded.judged unloaded.free) (λ unrun. unrun_taken layout (RunOf prefix) before after e (unrun_status before after e unrun))
    (λ run. planned_taken layout (RunOf prefix) before after e run.plan run.planned run.free) h

stop_taken : (layout prefix : List ℕ) (from : ℕ) (before after : Moment) (e : Ending) → IsStopEnd layout prefix from before after e → IfTaken layout (StateOf prefix) before.held (IsFaultStatus 12 (status_of e) before.reads after.reads)
stop_taken layout prefix from before after e h =
    let X : Type 0 = IsFaultStatus 12 (status_of e) before.reads after.reads in
    by_stop (IfTaken layout (StateOf prefix) before.held X) layout prefix from before after e (early_taken layout (StateOf prefix) before after e) (λ taken. said_taken layout (StateOf prefix) before after taken.network e taken.said)
    (λ unloaded. never_taken layout (StateOf prefix) before.held X unloaded.network unloaded.judged unloaded.free) (λ unrun. unrun_taken layout (StateOf prefix) before after e (unrun_status before after e unrun))
    (λ un. planned_taken layout (StateOf prefix) before after e un.plan un.planned un.free) (λ ran. planned_taken layout (StateOf prefix) before after e ran.plan ran.planned ran.free) h

resume_taken : (layout prefix : List ℕ) (before after : Moment) (e : Ending) → IsResumeEnd layout prefix before after e → IfTaken layout (RunOf prefix) before.held (IsFaultStatus 12 (status_of e) before.reads after.reads)
resume_taken layout prefix before after e h =
    let X : Type 0 = IsFaultStatus 12 (status_of e) before.reads after.reads in
    by_resume (IfTaken layout (RunOf prefix) before.held X) layout prefix before after e (early_taken layout (RunOf prefix) before after e) (λ taken. said_taken layout (RunOf prefix) before after taken.network e taken.said)
    (λ unloaded. never_taken layout (RunOf prefix) before.held X unloaded.network unloaded.judged unloaded.free) (λ unrun. unrun_taken layout (RunOf prefix) before after e (unrun_status before after e unrun))
    (λ un. planned_taken layout (RunOf prefix) before after e un.plan un.planned un.free) (λ ran. planned_taken layout (RunOf prefix) before after e ran.plan ran.planned ran.free) h

-- a form that writes nothing has no file with the name of an input
nothing_taken : (layout : List ℕ) (held : Option Files) (X : Type 0) → IfTaken layout NoFile held X
nothing_taken layout held X = some_of held _ (λ files has. let both = sym has.2.1 ∙ no_names layout has.0 in absurd (cc))

-- status 12 where a file to be written has the name of an input
pub output_faults_decide : DoOutputFaultsDecide
output_faults_decide words entry exit status answer =
    rw answer.is (
      λ layout prefix is. plain_taken layout prefix entry exit answer.by (files_end (asked words) layout prefix entry exit answer.by is answer.allowed),
      λ layout prefix from is. stop_taken layout prefix from entry exit answer.by (stop_end (asked words) layout prefix from entry exit answer.by is answer.allowed),
      λ layout prefix is. resume_taken layout prefix entry exit answer.by (resume_end (asked words) layout prefix entry exit answer.by is answer.allowed),
      λ layout log is. nothing_taken layout entry.held (IsFaultStatus 12 (status_of answer.by) entry.reads exit.reads),
    )

words_output : ending.Output ≡ ending.Words → ⊥
words_output e = cc

output_unrun : ending.Output ≡ ending.Memory → ⊥
output_unrun e = cc

-- the first name of an input was said
abbrev IsSaidOf : List ℕ → ToWrite → Moment → Moment → Type 0
IsSaidOf layout outputs entry exit = IsNetworkWith layout entry.held (λ network. IsTakenNameSaid layout outputs network entry exit)

files_said : (layout prefix : List ℕ) (entry exit : Moment) → IsPlainEnd layout prefix entry exit ending.Output → IsSaidOf layout (RunOf prefix) entry exit
files_said layout prefix entry exit h =
    by_way (IsSaidOf layout (RunOf prefix) entry exit) layout prefix entry exit ending.Output (λ early. absurd early) (λ taken. (taken.network, taken.judged, taken.said)) (λ unloaded. absurd unloaded.said) (λ unrun. absurd (output_unrun unrun.0))
    (λ run. elim run.filed [ inl all ↦ absurd all.1.2 | inr some ↦ absurd some ]) h

output_said_of : (o : Option Asked) (entry exit : Moment) → IsEndOf o entry exit ending.Output → IsWritingWith o (λ layout outputs. IsSaidOf layout outputs entry exit)
output_said_of None entry exit h = absurd (words_output h.0)
output_said_of (Some Help) entry exit h = absurd h.0
output_said_of (Some Version) entry exit h = absurd h.0
output_said_of (Some (Check layout)) entry exit h = elim h.1 [ inl early ↦ absurd early | inr checked ↦ absurd checked.written ]
output_said_of (Some (Slack layout)) entry exit h = elim h.1 [ inl early ↦ absurd early | inr checked ↦ absurd checked.written ]
output_said_of (Some (Plain layout prefix)) entry exit h = files_said layout prefix entry exit h
output_said_of (Some (Run layout prefix workers)) entry exit h = files_said layout prefix entry exit h
output_said_of (Some (Stop layout prefix from)) entry exit h =
    by_stop (IsSaidOf layout (StateOf prefix) entry exit) layout prefix from entry exit ending.Output (λ early. absurd early) (λ taken. (taken.network, taken.judged, taken.said)) (λ unloaded. absurd unloaded.said)
    (λ unrun. absurd (output_unrun unrun.0)) (λ un. absurd un.said) (λ ran. elim ran.filed [ inl all ↦ absurd all.1.2 | inr some ↦ absurd some ]) h
output_said_of (Some (Resume layout prefix)) entry exit h =
    by_resume (IsSaidOf layout (RunOf prefix) entry exit) layout prefix entry exit ending.Output (λ early. absurd early) (λ taken. (taken.network, taken.judged, taken.said)) (λ unloaded. absurd unloaded.said)
    (λ unrun. absurd (output_unrun unrun.0)) (λ un. absurd un.said) (λ ran. elim ran.filed [ inl all ↦ absurd all.1.2 | inr some ↦ absurd some ]) h
output_said_of (Some (Demo number workers)) entry exit h = absurd (by_demo ⊥ number entry exit ending.Output (λ is written. output_unrun is) (λ text right written. written) h)
output_said_of (Some (Probe told layout from to taps)) entry exit h =
    absurd (by_probe ⊥ told layout from to taps entry exit ending.Output (λ early. early) (λ missed. missed.missed) (λ unprobed. unprobed.said) (λ probed. probed.written) h)
output_said_of (Some (Meter log)) entry exit h = absurd (by_meter ⊥ log entry exit ending.Output (λ unmetered. unmetered) (λ metered. metered.written) h)
output_said_of (Some (Picture layout log from to)) entry exit h =
    absurd (by_picture ⊥ layout log from to entry exit ending.Output (λ early. early) (λ unlogged. unlogged.said) (λ drawn strange. strange) (λ drawn pictured. pictured.text) h)
output_said_of (Some (Frames layout log)) entry exit h =
    absurd (by_frames ⊥ layout log entry exit ending.Output (λ early. early) (λ unqueued. unqueued.said) (λ untabled. untabled.said) (λ d unplanned. unplanned) (λ d tabled. tabled.text) h)

-- status 12 comes of a file to be written that has the name of an input
pub output_faults_are_said : AreOutputFaultsSaid
output_faults_are_said words entry exit status answer is = output_said_of (asked words) entry exit (end_at words entry exit status 12 answer is)
