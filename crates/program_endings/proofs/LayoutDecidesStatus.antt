-- The status of a call is that of its layout: 2 where it has a fault, and 4 where it isn't held.
use Rattle.std.proofs.Common.{◌≡◌, ◌⊎◌, ℕ, Option, None, Some, Result, Ok, Err, List, refl, ap, inl, inr}
use Rattle.std.specs.Prelude.{IfSome}
use Rattle.outside.specs.Files.{Files, IsAbsent, Rose}
use Rattle.layout.specs.declared.lines.Layout.{Layout}
use Rattle.layout_file.specs.declared.fault.LayoutFault.{LayoutFault}
use Rattle.run_endings.specs.declared.endings.Ending.{Ending}
use Rattle.run_endings.specs.declared.endings.Ending.TheVariants as ending
use Rattle.run_endings.specs.Moments.{Moment}
use Rattle.program_endings.specs.Answers.{IsEndOf}
use Rattle.run_endings.specs.Answers.{status_of}
use Rattle.program_endings.specs.Endings.{IsDemoEnd, IsMeterEnd, IsPictureEnd, IsResumeEnd, IsStopEnd, IsFramesEnd}
use Rattle.run_endings.specs.Endings.{IsPlainEnd, IsTellingEnd, IsJudged, HasFault, IsEarly, IsFaultSaid, IsUnrun}
use Rattle.program_endings.specs.ProbeEnds.{IsProbeEnd}
use Rattle.run_endings.specs.Reading.{front_of}
use Rattle.program_words.specs.Requests.{Asked, asked, Check, Slack, Plain, Run, Stop, Resume, Demo, Probe, Meter, Picture, Frames, Help, Version}
use Rattle.program_words.specs.declared.words.Report.{Report}
use Rattle.program_endings.specs.Statuses.{IsFaultStatus, IsLayoutWith, IsUnreadOrMemory}
use Rattle.program_endings.specs.StatusLaws.{AreLayoutFaultsSaid, DoAbsentLayoutsDecide, DoLayoutFaultsDecide}
use Rattle.program_endings.proofs.EndingsByStatus.{by_demo, by_meter, by_picture, by_probe, by_resume, by_stop, end_at, files_end, of_tellings, picture_end, probe_end, resume_end, stop_end, by_frames, frames_end}
use Rattle.run_endings.proofs.WaysOfEnding.{by_way}

pub absent_unjudged : (name : List ℕ) (held : Option Files) (verdict : Result Layout LayoutFault) → IsAbsent name held → IsJudged name held verdict → ⊥
unfolding front_of
absent_unjudged name None verdict absent judged = absent
absent_unjudged name (Some files) verdict absent judged = let e = rw absent at judged in cc

pub some_of : (held : Option Files) (P : Files → Type 0) → ((files : Files) → P files) → IfSome held P
some_of None P all = tt
some_of (Some files) P all = all files

pub good_or_faulty : (name : List ℕ) (files : Files) (a : Layout) (f : LayoutFault) → IsJudged name (Some files) (Ok a) → IsJudged name (Some files) (Err f) → ⊥
good_or_faulty name files a f one two = cc

-- a layout that was judged good has no fault
no_fault_of : (X : Type 0) (name : List ℕ) (held : Option Files) (network : Layout) → IsJudged name held (Ok network) → IfSome held (λ files. HasFault name (Some files) → X)
no_fault_of X name None network judged = tt
no_fault_of X name (Some files) network judged = λ fault. absurd (good_or_faulty name files network fault.0 judged fault.1)

-- an end that came early
module _ (layout : List ℕ) (before after : Moment) where
  early_absent : (e : Ending) → IsAbsent layout before.held → IsEarly layout before after e → (status_of e ≡ 4) ⊎ (status_of e ≡ 6)
  early_absent ending.Done absent early = absurd early
  early_absent ending.Words absent early = absurd early
  early_absent ending.Layout absent early = absurd (absent_unjudged layout before.held (Err early.0) absent early.1)
  early_absent ending.Load absent early = absurd early
  early_absent ending.Read absent early = inl refl
  early_absent ending.Write absent early = absurd early
  early_absent ending.Memory absent early = inr refl
  early_absent ending.Probe absent early = absurd early
  early_absent ending.Log absent early = absurd early
  early_absent ending.Stranger absent early = absurd early
  early_absent ending.Unquiet absent early = absurd early
  early_absent ending.State absent early = absurd early
  early_absent ending.Output absent early = absurd early

-- where a read failed or the layout isn't held
pub unread_status : (X : Type 0) (layout : List ℕ) (held : Option Files) (reads risen : ℕ) (P : Files → Type 0) → ((files : Files) → IsAbsent layout (Some files) → P files → ⊥) → (Rose reads risen → X)
    → IsAbsent layout held ⊎ Rose reads risen → IfSome held (λ files. P files → X)
unread_status X layout None reads risen P never on unread = tt
unread_status X layout (Some files) reads risen P never on unread =
    λ p. elim unread [ inl absent ↦ absurd (never files absent p) | inr rose ↦ on rose ]

absent_faulty : (layout : List ℕ) (files : Files) → IsAbsent layout (Some files) → HasFault layout (Some files) → ⊥
absent_faulty layout files absent fault = absent_unjudged layout (Some files) (Err fault.0) absent fault.1

-- early ends where the layout has a fault
early_faulty : (layout : List ℕ) (before after : Moment) (e : Ending) → IsEarly layout before after e
    → IfSome before.held (λ files. HasFault layout (Some files) → IsFaultStatus 2 (status_of e) before.reads after.reads)
early_faulty layout before after ending.Done early = absurd early
early_faulty layout before after ending.Words early = absurd early
early_faulty layout before after ending.Layout early = some_of before.held _ (λ files fault. inl refl)
early_faulty layout before after ending.Load early = absurd early
early_faulty layout before after ending.Read early =
    unread_status (IsFaultStatus 2 4 before.reads after.reads) layout before.held before.reads after.reads (λ files. HasFault layout (Some files)) (absent_faulty layout) (λ rose. inr (inr (refl, rose))) early.0
early_faulty layout before after ending.Write early = absurd early
early_faulty layout before after ending.Memory early = some_of before.held _ (λ files fault. inr (inl refl))
early_faulty layout before after ending.Probe early = absurd early
early_faulty layout before after ending.Log early = absurd early
early_faulty layout before after ending.Stranger early = absurd early
early_faulty layout before after ending.Unquiet early = absurd early
early_faulty layout before after ending.State early = absurd early
early_faulty layout before after ending.Output early = absurd early

unrun_faulty : (fault : ℕ) (P : Files → Type 0) (before after : Moment) (e : Ending) → IsUnrun before after e
    → IfSome before.held (λ files. P files → IsFaultStatus fault (status_of e) before.reads after.reads)
unrun_faulty fault P before after e unrun = some_of before.held _ (λ files p. let six : status_of e ≡ 6 = ap status_of unrun.0 in inr (inl six))

telling_faulty : (Tells : Layout → List ℕ → Type 0) (layout : List ℕ) (before after : Moment) (e : Ending) → IsTellingEnd Tells layout before after e
    → IfSome before.held (λ files. HasFault layout (Some files) → IsFaultStatus 2 (status_of e) before.reads after.reads)
telling_faulty Tells layout before after e h =
    elim h.1 [ inl early ↦ early_faulty layout before after e early | inr told ↦ no_fault_of (IsFaultStatus 2 (status_of e) before.reads after.reads) layout before.held told.network told.judged ]

plain_faulty : (layout prefix : List ℕ) (before after : Moment) (e : Ending) → IsPlainEnd layout prefix before after e
    → IfSome before.held (λ files. HasFault layout (Some files) → IsFaultStatus 2 (status_of e) before.reads after.reads)
plain_faulty layout prefix before after e h =
    by_way (IfSome before.held (λ files. HasFault layout (Some files) → IsFaultStatus 2 (status_of e) before.reads after.reads)) layout prefix before after e (λ early. early_faulty layout before after e early)
    (λ taken. no_fault_of (IsFaultStatus 2 (status_of e) before.reads after.reads) layout before.held taken.network taken.judged) (λ unloaded. no_fault_of (IsFaultStatus 2 (status_of e) before.reads after.reads) layout before.held unloaded.network unloaded.judged)
    (λ unrun. unrun_faulty 2 (λ files. HasFault layout (Some files)) before after e unrun)
    (λ run. no_fault_of (IsFaultStatus 2 (status_of e) before.reads after.reads) layout before.held run.planned.network run.planned.judged) h

stop_faulty : (layout prefix : List ℕ) (from : ℕ) (before after : Moment) (e : Ending) → IsStopEnd layout prefix from before after e
    → IfSome before.held (λ files. HasFault layout (Some files) → IsFaultStatus 2 (status_of e) before.reads after.reads)
stop_faulty layout prefix from before after e h =
    by_stop (IfSome before.held (λ files. HasFault layout (Some files) → IsFaultStatus 2 (status_of e) before.reads after.reads)) layout prefix from before after e (λ early. early_faulty layout before after e early) (λ taken. no_fault_of (IsFaultStatus 2 (status_of e) before.reads after.reads) layout before.held taken.network taken.judged) (λ unloaded. no_fault_of (IsFaultStatus 2 (status_of e) before.reads after.reads) layout before.held unloaded.network unloaded.judged)
    (λ unrun. unrun_faulty 2 (λ files. HasFault layout (Some files)) before after e unrun) (λ un. no_fault_of (IsFaultStatus 2 (status_of e) before.reads after.reads) layout before.held un.planned.network un.planned.judged) (λ ran. no_fault_of (IsFaultStatus 2 (status_of e) before.reads after.reads) layout before.held ran.planned.network ran.planned.judged) h

resume_faulty : (layout prefix : List ℕ) (before after : Moment) (e : Ending) → IsResumeEnd layout prefix before after e
    → IfSome before.held (λ files. HasFault layout (Some files) → IsFaultStatus 2 (status_of e) before.reads after.reads)
resume_faulty layout prefix before after e h =
    by_resume (IfSome before.held (λ files. HasFault layout (Some files) → IsFaultStatus 2 (status_of e) before.reads after.reads)) layout prefix before after e (λ early. early_faulty layout before after e early) (λ taken. no_fault_of (IsFaultStatus 2 (status_of e) before.reads after.reads) layout before.held taken.network taken.judged) (λ unloaded. no_fault_of (IsFaultStatus 2 (status_of e) before.reads after.reads) layout before.held unloaded.network unloaded.judged)
    (λ unrun. unrun_faulty 2 (λ files. HasFault layout (Some files)) before after e unrun) (λ un. no_fault_of (IsFaultStatus 2 (status_of e) before.reads after.reads) layout before.held un.planned.network un.planned.judged) (λ ran. no_fault_of (IsFaultStatus 2 (status_of e) before.reads after.reads) layout before.held ran.planned.network ran.planned.judged) h

probe_faulty : (told : Report) (layout : List ℕ) (from to : ℕ) (taps : List (List ℕ)) (before after : Moment) (e : Ending) → IsProbeEnd told layout from to taps before after e
    → IfSome before.held (λ files. HasFault layout (Some files) → IsFaultStatus 2 (status_of e) before.reads after.reads)
probe_faulty told layout from to taps before after e h =
    by_probe (IfSome before.held (λ files. HasFault layout (Some files) → IsFaultStatus 2 (status_of e) before.reads after.reads)) told layout from to taps before after e (λ early. early_faulty layout before after e early)
    (λ missed. no_fault_of (IsFaultStatus 2 (status_of e) before.reads after.reads) layout before.held missed.network missed.judged)
    (λ unprobed. no_fault_of (IsFaultStatus 2 (status_of e) before.reads after.reads) layout before.held unprobed.network unprobed.judged)
    (λ probed. no_fault_of (IsFaultStatus 2 (status_of e) before.reads after.reads) layout before.held probed.right.planned.network probed.right.planned.judged) h

picture_faulty : (layout log : List ℕ) (from to : ℕ) (before after : Moment) (e : Ending) → IsPictureEnd layout log from to before after e
    → IfSome before.held (λ files. HasFault layout (Some files) → IsFaultStatus 2 (status_of e) before.reads after.reads)
picture_faulty layout log from to before after e h =
    by_picture (IfSome before.held (λ files. HasFault layout (Some files) → IsFaultStatus 2 (status_of e) before.reads after.reads)) layout log from to before after e (λ early. early_faulty layout before after e early)
    (λ unlogged. no_fault_of (IsFaultStatus 2 (status_of e) before.reads after.reads) layout before.held unlogged.network unlogged.judged)
    (λ drawn strange. no_fault_of (IsFaultStatus 2 (status_of e) before.reads after.reads) layout before.held drawn.network drawn.judged)
    (λ drawn pictured. no_fault_of (IsFaultStatus 2 (status_of e) before.reads after.reads) layout before.held drawn.network drawn.judged) h

frames_faulty : (layout log : List ℕ) (before after : Moment) (e : Ending) → IsFramesEnd layout log before after e
    → IfSome before.held (λ files. HasFault layout (Some files) → IsFaultStatus 2 (status_of e) before.reads after.reads)
frames_faulty layout log before after e h =
    by_frames (IfSome before.held (λ files. HasFault layout (Some files) → IsFaultStatus 2 (status_of e) before.reads after.reads)) layout log before after e (λ early. early_faulty layout before after e early)
    (λ unqueued. no_fault_of (IsFaultStatus 2 (status_of e) before.reads after.reads) layout before.held unqueued.network unqueued.judged)
    (λ untabled. no_fault_of (IsFaultStatus 2 (status_of e) before.reads after.reads) layout before.held untabled.planned.network untabled.planned.judged)
    (λ d unplanned. no_fault_of (IsFaultStatus 2 (status_of e) before.reads after.reads) layout before.held d.planned.network d.planned.judged)
    (λ d tabled. no_fault_of (IsFaultStatus 2 (status_of e) before.reads after.reads) layout before.held d.planned.network d.planned.judged) h

-- status 2 where the layout has a fault
pub layout_faults_decide : DoLayoutFaultsDecide
layout_faults_decide words entry exit status answer =
    rw answer.is (
      of_tellings (asked words) entry exit answer.by (λ Tells layout. IfSome entry.held (λ files. HasFault layout (Some files) → IsFaultStatus 2 (status_of answer.by) entry.reads exit.reads))
          (λ Tells layout end. telling_faulty Tells layout entry exit answer.by end) answer.allowed,
      λ layout prefix is. plain_faulty layout prefix entry exit answer.by (files_end (asked words) layout prefix entry exit answer.by is answer.allowed),
      λ layout prefix from is. stop_faulty layout prefix from entry exit answer.by (stop_end (asked words) layout prefix from entry exit answer.by is answer.allowed),
      λ layout prefix is. resume_faulty layout prefix entry exit answer.by (resume_end (asked words) layout prefix entry exit answer.by is answer.allowed),
      λ told layout from to taps is. probe_faulty told layout from to taps entry exit answer.by (probe_end (asked words) told layout from to taps entry exit answer.by is answer.allowed),
      λ layout log from to is. picture_faulty layout log from to entry exit answer.by (picture_end (asked words) layout log from to entry exit answer.by is answer.allowed),
      λ layout log is. frames_faulty layout log entry exit answer.by (frames_end (asked words) layout log entry exit answer.by is answer.allowed),
    )

telling_absent : (Tells : Layout → List ℕ → Type 0) (layout : List ℕ) (before after : Moment) (e : Ending) → IsTellingEnd Tells layout before after e → IsAbsent layout before.held → IsUnreadOrMemory (status_of e)
telling_absent Tells layout before after e h absent =
    elim h.1 [ inl early ↦ early_absent layout before after e absent early | inr told ↦ absurd (absent_unjudged layout before.held (Ok told.network) absent told.judged) ]

plain_absent : (layout prefix : List ℕ) (before after : Moment) (e : Ending) → IsPlainEnd layout prefix before after e → IsAbsent layout before.held → IsUnreadOrMemory (status_of e)
plain_absent layout prefix before after e h absent =
    by_way (IsUnreadOrMemory (status_of e)) layout prefix before after e (λ early. early_absent layout before after e absent early)
    (λ taken. absurd (absent_unjudged layout before.held (Ok taken.network) absent taken.judged)) (λ unloaded. absurd (absent_unjudged layout before.held (Ok unloaded.network) absent unloaded.judged)) (λ unrun. inr (ap status_of unrun.0))
    (λ run. absurd (absent_unjudged layout before.held (Ok run.planned.network) absent run.planned.judged)) h

stop_absent : (layout prefix : List ℕ) (from : ℕ) (before after : Moment) (e : Ending) → IsStopEnd layout prefix from before after e → IsAbsent layout before.held → IsUnreadOrMemory (status_of e)
stop_absent layout prefix from before after e h absent =
    by_stop (IsUnreadOrMemory (status_of e)) layout prefix from before after e (λ early. early_absent layout before after e absent early)
    (λ taken. absurd (absent_unjudged layout before.held (Ok taken.network) absent taken.judged)) (λ unloaded. absurd (absent_unjudged layout before.held (Ok unloaded.network) absent unloaded.judged)) (λ unrun. inr (ap status_of unrun.0)) (λ un. absurd (absent_unjudged layout before.held (Ok un.planned.network) absent un.planned.judged)) (λ ran. absurd (absent_unjudged layout before.held (Ok ran.planned.network) absent ran.planned.judged)) h

resume_absent : (layout prefix : List ℕ) (before after : Moment) (e : Ending) → IsResumeEnd layout prefix before after e → IsAbsent layout before.held → IsUnreadOrMemory (status_of e)
resume_absent layout prefix before after e h absent =
    by_resume (IsUnreadOrMemory (status_of e)) layout prefix before after e (λ early. early_absent layout before after e absent early)
    (λ taken. absurd (absent_unjudged layout before.held (Ok taken.network) absent taken.judged)) (λ unloaded. absurd (absent_unjudged layout before.held (Ok unloaded.network) absent unloaded.judged)) (λ unrun. inr (ap status_of unrun.0)) (λ un. absurd (absent_unjudged layout before.held (Ok un.planned.network) absent un.planned.judged)) (λ ran. absurd (absent_unjudged layout before.held (Ok ran.planned.network) absent ran.planned.judged)) h

probe_absent : (told : Report) (layout : List ℕ) (from to : ℕ) (taps : List (List ℕ)) (before after : Moment) (e : Ending) → IsProbeEnd told layout from to taps before after e → IsAbsent layout before.held → IsUnreadOrMemory (status_of e)
probe_absent told layout from to taps before after e h absent =
    by_probe (IsUnreadOrMemory (status_of e)) told layout from to taps before after e (λ early. early_absent layout before after e absent early)
    (λ missed. absurd (absent_unjudged layout before.held (Ok missed.network) absent missed.judged)) (λ unprobed. absurd (absent_unjudged layout before.held (Ok unprobed.network) absent unprobed.judged))
    (λ probed. absurd (absent_unjudged layout before.held (Ok probed.right.planned.network) absent probed.right.planned.judged)) h

picture_absent : (layout log : List ℕ) (from to : ℕ) (before after : Moment) (e : Ending) → IsPictureEnd layout log from to before after e → IsAbsent layout before.held → IsUnreadOrMemory (status_of e)
picture_absent layout log from to before after e h absent =
    by_picture (IsUnreadOrMemory (status_of e)) layout log from to before after e (λ early. early_absent layout before after e absent early)
    (λ unlogged. absurd (absent_unjudged layout before.held (Ok unlogged.network) absent unlogged.judged)) (λ drawn strange. absurd (absent_unjudged layout before.held (Ok drawn.network) absent drawn.judged))
    (λ drawn pictured. absurd (absent_unjudged layout before.held (Ok drawn.network) absent drawn.judged)) h

frames_absent : (layout log : List ℕ) (before after : Moment) (e : Ending) → IsFramesEnd layout log before after e → IsAbsent layout before.held → IsUnreadOrMemory (status_of e)
frames_absent layout log before after e h absent =
    by_frames (IsUnreadOrMemory (status_of e)) layout log before after e (λ early. early_absent layout before after e absent early)
    (λ unqueued. absurd (absent_unjudged layout before.held (Ok unqueued.network) absent unqueued.judged)) (λ untabled. absurd (absent_unjudged layout before.held (Ok untabled.planned.network) absent untabled.planned.judged))
    (λ d unplanned. absurd (absent_unjudged layout before.held (Ok d.planned.network) absent d.planned.judged)) (λ d tabled. absurd (absent_unjudged layout before.held (Ok d.planned.network) absent d.planned.judged)) h

-- a layout that isn't held is not judged
pub absent_layouts_decide : DoAbsentLayoutsDecide
absent_layouts_decide words entry exit status answer =
    rw answer.is (
      of_tellings (asked words) entry exit answer.by (λ Tells layout. IsAbsent layout entry.held → IsUnreadOrMemory (status_of answer.by))
          (λ Tells layout end. telling_absent Tells layout entry exit answer.by end) answer.allowed,
      λ layout prefix is. plain_absent layout prefix entry exit answer.by (files_end (asked words) layout prefix entry exit answer.by is answer.allowed),
      λ layout prefix from is. stop_absent layout prefix from entry exit answer.by (stop_end (asked words) layout prefix from entry exit answer.by is answer.allowed),
      λ layout prefix is. resume_absent layout prefix entry exit answer.by (resume_end (asked words) layout prefix entry exit answer.by is answer.allowed),
      λ told layout from to taps is. probe_absent told layout from to taps entry exit answer.by (probe_end (asked words) told layout from to taps entry exit answer.by is answer.allowed),
      λ layout log from to is. picture_absent layout log from to entry exit answer.by (picture_end (asked words) layout log from to entry exit answer.by is answer.allowed),
      λ layout log is. frames_absent layout log entry exit answer.by (frames_end (asked words) layout log entry exit answer.by is answer.allowed),
    )

layout_unrun : ending.Layout ≡ ending.Memory → ⊥
layout_unrun e = cc

words_layout : ending.Layout ≡ ending.Words → ⊥
words_layout e = cc

plain_said : (layout prefix : List ℕ) (entry exit : Moment) → IsPlainEnd layout prefix entry exit ending.Layout → IsFaultSaid layout entry exit
plain_said layout prefix entry exit h =
    by_way (IsFaultSaid layout entry exit) layout prefix entry exit ending.Layout (λ early. early) (λ taken. absurd taken.said) (λ unloaded. absurd unloaded.said) (λ unrun. absurd (layout_unrun unrun.0))
    (λ run. elim run.filed [ inl all ↦ absurd all.1.2 | inr some ↦ absurd some ]) h

demo_said : (number : ℕ) (entry exit : Moment) → IsDemoEnd number entry exit ending.Layout → ⊥
demo_said number entry exit h = by_demo ⊥ number entry exit ending.Layout (λ is written. layout_unrun is) (λ text right written. written) h

probe_said : (told : Report) (layout : List ℕ) (from to : ℕ) (taps : List (List ℕ)) (entry exit : Moment) → IsProbeEnd told layout from to taps entry exit ending.Layout → IsFaultSaid layout entry exit
probe_said told layout from to taps entry exit h =
    by_probe (IsFaultSaid layout entry exit) told layout from to taps entry exit ending.Layout (λ early. early) (λ missed. absurd missed.missed) (λ unprobed. absurd unprobed.said) (λ probed. absurd probed.written) h

meter_said : (log : List ℕ) (entry exit : Moment) → IsMeterEnd log entry exit ending.Layout → ⊥
meter_said log entry exit h = by_meter ⊥ log entry exit ending.Layout (λ unmetered. unmetered) (λ metered. metered.written) h

picture_said : (layout log : List ℕ) (from to : ℕ) (entry exit : Moment) → IsPictureEnd layout log from to entry exit ending.Layout → IsFaultSaid layout entry exit
picture_said layout log from to entry exit h =
    by_picture (IsFaultSaid layout entry exit) layout log from to entry exit ending.Layout (λ early. early) (λ unlogged. absurd unlogged.said) (λ drawn strange. absurd strange) (λ drawn pictured. absurd pictured.text) h

frames_said : (layout log : List ℕ) (entry exit : Moment) → IsFramesEnd layout log entry exit ending.Layout → IsFaultSaid layout entry exit
frames_said layout log entry exit h =
    by_frames (IsFaultSaid layout entry exit) layout log entry exit ending.Layout (λ early. early) (λ unqueued. absurd unqueued.said) (λ untabled. absurd untabled.said) (λ d unplanned. absurd unplanned) (λ d tabled. absurd tabled.text) h

-- status 2 comes of a layout with a fault
faulty_of : (o : Option Asked) (entry exit : Moment) → IsEndOf o entry exit ending.Layout → IsLayoutWith o (λ layout. IsFaultSaid layout entry exit)
faulty_of None entry exit h = absurd (words_layout h.0)
faulty_of (Some Help) entry exit h = absurd h.0
faulty_of (Some Version) entry exit h = absurd h.0
faulty_of (Some (Check layout)) entry exit h = elim h.1 [ inl early ↦ early | inr checked ↦ absurd checked.written ]
faulty_of (Some (Slack layout)) entry exit h = elim h.1 [ inl early ↦ early | inr checked ↦ absurd checked.written ]
faulty_of (Some (Plain layout prefix)) entry exit h = plain_said layout prefix entry exit h
faulty_of (Some (Run layout prefix workers)) entry exit h = plain_said layout prefix entry exit h
faulty_of (Some (Stop layout prefix from)) entry exit h =
    by_stop (IsFaultSaid layout entry exit) layout prefix from entry exit ending.Layout (λ early. early) (λ taken. absurd taken.said) (λ unloaded. absurd unloaded.said) (λ unrun. absurd (layout_unrun unrun.0)) (λ un. absurd un.said) (λ ran. elim ran.filed [ inl all ↦ absurd all.1.2 | inr some ↦ absurd some ]) h
faulty_of (Some (Resume layout prefix)) entry exit h =
    by_resume (IsFaultSaid layout entry exit) layout prefix entry exit ending.Layout (λ early. early) (λ taken. absurd taken.said) (λ unloaded. absurd unloaded.said) (λ unrun. absurd (layout_unrun unrun.0)) (λ un. absurd un.said) (λ ran. elim ran.filed [ inl all ↦ absurd all.1.2 | inr some ↦ absurd some ]) h
faulty_of (Some (Demo number workers)) entry exit h = demo_said number entry exit h
faulty_of (Some (Probe told layout from to taps)) entry exit h = probe_said told layout from to taps entry exit h
faulty_of (Some (Meter log)) entry exit h = meter_said log entry exit h
faulty_of (Some (Picture layout log from to)) entry exit h = picture_said layout log from to entry exit h
faulty_of (Some (Frames layout log)) entry exit h = frames_said layout log entry exit h

pub layout_faults_are_said : AreLayoutFaultsSaid
layout_faults_are_said words entry exit status answer is = faulty_of (asked words) entry exit (end_at words entry exit status 2 answer is)
