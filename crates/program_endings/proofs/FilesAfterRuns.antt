-- What a call leaves of files and of the sink, by how it ended.
use Rattle.std.proofs.Common.{◌≡◌, ◌⊎◌, ℕ, Option, None, Some, List, refl, ap, inl, inr}
use Rattle.outside.specs.Files.{Rose}
use Rattle.layout.specs.declared.lines.Layout.{Layout}
use Rattle.run_endings.specs.declared.endings.Ending.{Ending}
use Rattle.run_endings.specs.declared.endings.Ending.TheVariants as ending
use Rattle.program_endings.specs.Answers.{IsAnswer, IsEndOf}
use Rattle.run_endings.specs.Answers.{status_of}
use Rattle.run_endings.specs.Endings.{IsPlainEnd, IsRun, IsTellingEnd, IsText, IsTold, Says}
use Rattle.run_endings.specs.Moments.{Moment}
use Rattle.program_words.specs.Requests.{Asked, asked, Check, Slack, Plain, Run, Stop, Resume, Demo, Probe, Meter, Picture, Frames, Help, Version}
use Rattle.run_endings.specs.Done.{AskForFiles, IfFiles}
use Rattle.program_endings.specs.Statuses.{IsDemoCut, IsDemoStatus, IsRunBroken, IsRunRefused, IsSummaryCut, IsTellingCut, IsDemoDone}
use Rattle.program_endings.specs.StatusLaws.{AreDemosCutShort, AreDemosRefused, AreFailuresSilent, AreFilesWhole, AreTellingsCutShort, AreTellingsRefused, AreTextsCutShort, AreTextsFailed, AreWordsSaid, DoDemosKeepFiles, DoTellingsKeepFiles, DoTextsKeepFiles, HaveDemosStatuses}
use Rattle.program_texts.specs.Texts.{line_of_words_fault}
use Rattle.run_endings.specs.Runs.{run_files}
use Rattle.run_endings.specs.Writing.{IsBrokenAmong, IsCutShort}
use Rattle.program_endings.proofs.EndingsByStatus.{by_demo, demo_end, end_at, files_end, of_tellings, of_texts}
use Rattle.program_endings.proofs.EveryForm.{never_demo, never_meter, never_picture, never_probe, never_resume, never_stop, never_words, never_frames}
use Rattle.program_endings.specs.Endings.{IsDemoEnd}
use Rattle.run_endings.proofs.DoneRuns.{run_of}

run_written : (layout prefix : List ℕ) (before after : Moment) → IsPlainEnd layout prefix before after ending.Write → IsRun layout prefix before after ending.Write
run_written layout prefix before after h = run_of layout prefix before after ending.Write (λ early. early) (λ network said. said) (λ network said. said) (λ e. cc) h

-- a run that left some of its files, or a front of its summary
run_left : (layout prefix : List ℕ) (before after : Moment) (e : Ending) (run : IsRun layout prefix before after e)
    → (IsBrokenAmong (run_files prefix run.plan) before.held after.held × (after.written ≡ before.written)) ⊎ IsSummaryCut prefix run.plan before after → IsRunBroken layout prefix before after
run_left layout prefix before after e run left = record { plan = run.plan; planned = run.planned; left = left }

broken_of : (layout prefix : List ℕ) (before after : Moment) → IsRun layout prefix before after ending.Write → IsRunBroken layout prefix before after
broken_of layout prefix before after run =
    run_left layout prefix before after ending.Write run
    (elim run.filed [ inl all ↦ inr (record { files = all.0; summary = all.1.0; summed = all.1.1; cut = all.1.2.0 }) | inr some ↦ inl (some.0, some.2) ])

written_at : (words : List (List ℕ)) (entry exit : Moment) (status : ℕ) (layout prefix : List ℕ) → IsAnswer words entry exit status → status ≡ 5 → AskForFiles (asked words) layout prefix → IsRun layout prefix entry exit ending.Write
written_at words entry exit status layout prefix answer five is =
    run_written layout prefix entry exit (files_end (asked words) layout prefix entry exit ending.Write is (end_at words entry exit status 5 answer five))

-- status 5 of a run
pub broken : (words : List (List ℕ)) (entry exit : Moment) (status : ℕ) → IsAnswer words entry exit status → status ≡ 5 → IfFiles (asked words) (λ layout prefix. IsRunBroken layout prefix entry exit)
broken words entry exit status answer five layout prefix is = broken_of layout prefix entry exit (written_at words entry exit status layout prefix answer five is)

pub files_are_whole : AreFilesWhole
files_are_whole words entry exit status answer five never layout prefix is =
    let run : IsRun layout prefix entry exit ending.Write = written_at words entry exit status layout prefix answer five is in
    elim run.filed [
      | inl all ↦ record { plan = run.plan; planned = run.planned; files = all.0 }
      | inr some ↦ absurd (never some.1)
    ]

pub failures_are_silent : AreFailuresSilent
failures_are_silent words entry exit status answer five never layout prefix is =
    let run : IsRun layout prefix entry exit ending.Write = written_at words entry exit status layout prefix answer five is in
    elim run.filed [ inl all ↦ absurd (never all.1.2.1) | inr some ↦ some.2 ]

refused_of : (layout prefix : List ℕ) (before after : Moment) → IsRun layout prefix before after ending.Memory → IsRunBroken layout prefix before after
refused_of layout prefix before after run =
    run_left layout prefix before after ending.Memory run
    (elim run.filed [ inl all ↦ inr (record { files = all.0; summary = all.1.0; summed = all.1.1; cut = all.1.2 }) | inr some ↦ inl (some.0, some.1) ])

memory_of : (layout prefix : List ℕ) (before after : Moment) → IsPlainEnd layout prefix before after ending.Memory → IsRunRefused layout prefix before after
memory_of layout prefix before after h =
    elim h [
      | inl none ↦ elim none [ inl early ↦ inl (early.1, early.0) | inr later ↦ elim later [ inl taken ↦ inl (taken.1, taken.0.said) | inr last ↦ elim last [ inl unloaded ↦ inl (unloaded.1, unloaded.0.said) | inr unrun ↦ inl (unrun.1, unrun.2) ] ] ]
      | inr run ↦ inr (refused_of layout prefix before after run)
    ]

-- status 6 of a run
pub memory : (words : List (List ℕ)) (entry exit : Moment) (status : ℕ) → IsAnswer words entry exit status → status ≡ 6
    → IfFiles (asked words) (λ layout prefix. IsRunRefused layout prefix entry exit)
memory words entry exit status answer six layout prefix is =
    memory_of layout prefix entry exit (files_end (asked words) layout prefix entry exit ending.Memory is (end_at words entry exit status 6 answer six))

cut_of : (Tells : Layout → List ℕ → Type 0) (layout : List ℕ) (before after : Moment) (e : Ending) (told : IsTold Tells layout before after e) → IsCutShort told.text before.written after.written → IsTellingCut Tells layout before after
cut_of Tells layout before after e told cut = record { network = told.network; judged = told.judged; text = told.text; right = told.right; cut = cut }

telling_failed : (Tells : Layout → List ℕ → Type 0) (layout : List ℕ) (before after : Moment) → IsTellingEnd Tells layout before after ending.Write → Rose before.faults after.faults × IsTellingCut Tells layout before after
telling_failed Tells layout before after h = elim h.1 [ inl early ↦ absurd early | inr told ↦ (told.written.1, cut_of Tells layout before after ending.Write told told.written.0) ]

pub tellings_are_cut_short : AreTellingsCutShort
tellings_are_cut_short words entry exit status answer five =
    of_tellings (asked words) entry exit ending.Write (λ Tells layout. Rose entry.faults exit.faults × IsTellingCut Tells layout entry exit) (λ Tells layout end. telling_failed Tells layout entry exit end) (end_at words entry exit status 5 answer five)

telling_refused : (Tells : Layout → List ℕ → Type 0) (layout : List ℕ) (before after : Moment) → IsTellingEnd Tells layout before after ending.Memory → (after.written ≡ before.written) ⊎ IsTellingCut Tells layout before after
telling_refused Tells layout before after h = elim h.1 [ inl early ↦ inl early | inr told ↦ inr (cut_of Tells layout before after ending.Memory told told.written) ]

pub tellings_are_refused : AreTellingsRefused
tellings_are_refused words entry exit status answer six =
    of_tellings (asked words) entry exit ending.Memory (λ Tells layout. (exit.written ≡ entry.written) ⊎ IsTellingCut Tells layout entry exit) (λ Tells layout end. telling_refused Tells layout entry exit end) (end_at words entry exit status 6 answer six)

pub tellings_keep_files : DoTellingsKeepFiles
tellings_keep_files words entry exit status answer = of_tellings (asked words) entry exit answer.by (λ Tells layout. exit.held ≡ entry.held) (λ Tells layout end. end.0) answer.allowed

write_unmade : ending.Write ≡ ending.Memory → ⊥
write_unmade e = cc

pub demos_are_cut_short : AreDemosCutShort
demos_are_cut_short words entry exit status answer five number workers is =
    by_demo (Rose entry.faults exit.faults × IsDemoCut number entry exit) number entry exit ending.Write (λ memory written. absurd (write_unmade memory))
    (λ text right written. (written.1, record { text = text; right = right; cut = written.0 })) (demo_end (asked words) number workers entry exit ending.Write is (end_at words entry exit status 5 answer five))

pub demos_are_refused : AreDemosRefused
demos_are_refused words entry exit status answer six number workers is =
    by_demo ((exit.written ≡ entry.written) ⊎ IsDemoCut number entry exit) number entry exit ending.Memory (λ memory written. inl written) (λ text right written. inr (record { text = text; right = right; cut = written }))
    (demo_end (asked words) number workers entry exit ending.Memory is (end_at words entry exit status 6 answer six))

pub demos_keep_files : DoDemosKeepFiles
demos_keep_files words entry exit status answer number workers is = (demo_end (asked words) number workers entry exit answer.by is answer.allowed).1

text_status : (text : List ℕ) (before after : Moment) (e : Ending) → IsText text before after e → IsDemoStatus (status_of e)
text_status text before after ending.Done written = inl refl
text_status text before after ending.Words written = absurd written
text_status text before after ending.Layout written = absurd written
text_status text before after ending.Load written = absurd written
text_status text before after ending.Read written = absurd written
text_status text before after ending.Write written = inr (inl refl)
text_status text before after ending.Memory written = inr (inr refl)
text_status text before after ending.Probe written = absurd written
text_status text before after ending.Log written = absurd written
text_status text before after ending.Stranger written = absurd written
text_status text before after ending.Unquiet written = absurd written
text_status text before after ending.State written = absurd written
text_status text before after ending.Output written = absurd written

pub demos_have_statuses : HaveDemosStatuses
demos_have_statuses words entry exit status answer number workers is =
    rw answer.is (by_demo (IsDemoStatus (status_of answer.by)) number entry exit answer.by (λ memory written. inr (inr (ap status_of memory))) (λ text right written. text_status text entry exit answer.by written)
    (demo_end (asked words) number workers entry exit answer.by is answer.allowed))

pub texts_are_failed : AreTextsFailed
texts_are_failed words entry exit status answer five =
    of_texts (asked words) entry exit ending.Write (λ text. Rose entry.faults exit.faults) (λ text end. end.0.1) (end_at words entry exit status 5 answer five)

pub texts_keep_files : DoTextsKeepFiles
texts_keep_files words entry exit status answer = of_texts (asked words) entry exit answer.by (λ text. exit.held ≡ entry.held) (λ text end. end.1) answer.allowed

text_cut : (text : List ℕ) (before after : Moment) (e : Ending) → IsText text before after e → (status_of e ≡ 0) ⊎ IsCutShort text before.written after.written
text_cut text before after ending.Done written = inl refl
text_cut text before after ending.Words written = absurd written
text_cut text before after ending.Layout written = absurd written
text_cut text before after ending.Load written = absurd written
text_cut text before after ending.Read written = absurd written
text_cut text before after ending.Write written = inr written.0
text_cut text before after ending.Memory written = inr written
text_cut text before after ending.Probe written = absurd written
text_cut text before after ending.Log written = absurd written
text_cut text before after ending.Stranger written = absurd written
text_cut text before after ending.Unquiet written = absurd written
text_cut text before after ending.State written = absurd written
text_cut text before after ending.Output written = absurd written

pub texts_are_cut_short : AreTextsCutShort
texts_are_cut_short words entry exit status answer =
    rw answer.is (of_texts (asked words) entry exit answer.by (λ text. (status_of answer.by ≡ 0) ⊎ IsCutShort text entry.written exit.written) (λ text end. text_cut text entry exit answer.by end.0) answer.allowed)

words_said_of : (o : Option Asked) (entry exit : Moment) → IsEndOf o entry exit ending.Words → Says line_of_words_fault entry exit
words_said_of None entry exit h = h.2
words_said_of (Some Help) entry exit h = absurd h.0
words_said_of (Some Version) entry exit h = absurd h.0
words_said_of (Some (Check layout)) entry exit h = elim h.1 [ inl early ↦ absurd early | inr checked ↦ absurd checked.written ]
words_said_of (Some (Slack layout)) entry exit h = elim h.1 [ inl early ↦ absurd early | inr checked ↦ absurd checked.written ]
words_said_of (Some (Plain layout prefix)) entry exit h = absurd (never_words layout prefix entry exit h)
words_said_of (Some (Run layout prefix workers)) entry exit h = absurd (never_words layout prefix entry exit h)
words_said_of (Some (Stop layout prefix from)) entry exit h = absurd (never_stop layout prefix from entry exit h)
words_said_of (Some (Resume layout prefix)) entry exit h = absurd (never_resume layout prefix entry exit h)
words_said_of (Some (Demo number workers)) entry exit h = absurd (never_demo number entry exit h)
words_said_of (Some (Probe told layout from to taps)) entry exit h = absurd (never_probe told layout from to taps entry exit h)
words_said_of (Some (Meter log)) entry exit h = absurd (never_meter log entry exit h)
words_said_of (Some (Picture layout log from to)) entry exit h = absurd (never_picture layout log from to entry exit h)
words_said_of (Some (Frames layout log)) entry exit h = absurd (never_frames layout log entry exit h)

pub words_are_said : AreWordsSaid
words_are_said words entry exit status answer one = words_said_of (asked words) entry exit (end_at words entry exit status 1 answer one)

-- an ending of demo, at each status
done_unmade : ending.Done ≡ ending.Memory → ⊥
done_unmade e = cc

-- demo was done
pub demo_done : (number : ℕ) (before after : Moment) → IsDemoEnd number before after ending.Done → IsDemoDone number before after
demo_done number before after h =
    by_demo (IsDemoDone number before after) number before after ending.Done (λ memory written. absurd (done_unmade memory)) (λ text right written. record { text = text; right = right; written = written; held = h.1 }) h
