-- What holds of every answer, whatever the form of words.
use Rattle.std.proofs.Common.{◌≡◌, ◌<◌, ◌⊎◌, ◌↔◌, ℕ, Option, None, Some, List, refl, ap, subst, ◌∙◌, inl, inr, arith}
use Rattle.outside.specs.Files.{Rose}
use Rattle.outside.specs.declared.file.File.{File}
use Rattle.run_endings.specs.declared.endings.Ending.{Ending}
use Rattle.run_endings.specs.declared.endings.Ending.TheVariants as ending
use Rattle.program_endings.specs.Answers.{IsAnswer, IsEndOf}
use Rattle.run_endings.specs.Answers.{status_of}
use Rattle.program_endings.specs.Endings.{IsDemoEnd, IsMeterEnd, IsPictureEnd, IsResumeEnd, IsStopEnd, IsFramesEnd}
use Rattle.run_endings.specs.Endings.{IsFiledEnd, IsPlainEnd}
use Rattle.program_endings.specs.ProbeEnds.{IsProbeEnd}
use Rattle.run_endings.specs.Moments.{Moment}
use Rattle.program_endings.specs.StoppedRuns.{IsResumedSummary, IsStopLine, resumed_files, state_files}
use Rattle.run_endings.specs.Runs.{IsSummary, run_files}
use Rattle.program_words.specs.Requests.{Asked, asked, Check, Slack, Plain, Run, Stop, Resume, Demo, Probe, Meter, Picture, Frames, Help, Version}
use Rattle.program_words.specs.declared.words.Report.{Report}
use Rattle.program_endings.specs.Statuses.{IsRefusal}
use Rattle.program_endings.proofs.EndingsByStatus.{by_demo, by_meter, by_picture, by_probe, by_resume, by_stop, end_at, by_frames}
use Rattle.run_endings.proofs.WaysOfEnding.{by_way}

words_done : ending.Write ≡ ending.Words → ⊥
words_done e = cc

words_unrun : ending.Words ≡ ending.Memory → ⊥
words_unrun e = cc

write_unrun : ending.Write ≡ ending.Memory → ⊥
write_unrun e = cc

-- no form ends as words of no form do
pub never_words : (layout prefix : List ℕ) (entry exit : Moment) → IsPlainEnd layout prefix entry exit ending.Words → ⊥
never_words layout prefix entry exit h =
    by_way ⊥ layout prefix entry exit ending.Words (λ early. early) (λ taken. taken.said) (λ unloaded. unloaded.said) (λ unrun. words_unrun unrun.0) (λ run. elim run.filed [ inl all ↦ all.1.2 | inr some ↦ some ]) h

pub never_demo : (number : ℕ) (entry exit : Moment) → IsDemoEnd number entry exit ending.Words → ⊥
never_demo number entry exit h = by_demo ⊥ number entry exit ending.Words (λ is written. words_unrun is) (λ text right written. written) h

pub never_probe : (told : Report) (layout : List ℕ) (from to : ℕ) (taps : List (List ℕ)) (entry exit : Moment) → IsProbeEnd told layout from to taps entry exit ending.Words → ⊥
never_probe told layout from to taps entry exit h =
    by_probe ⊥ told layout from to taps entry exit ending.Words (λ early. early) (λ missed. missed.missed) (λ unprobed. unprobed.said) (λ probed. probed.written) h

pub never_meter : (log : List ℕ) (entry exit : Moment) → IsMeterEnd log entry exit ending.Words → ⊥
never_meter log entry exit h = by_meter ⊥ log entry exit ending.Words (λ unmetered. unmetered) (λ metered. metered.written) h

pub never_picture : (layout log : List ℕ) (from to : ℕ) (entry exit : Moment) → IsPictureEnd layout log from to entry exit ending.Words → ⊥
never_picture layout log from to entry exit h =
    by_picture ⊥ layout log from to entry exit ending.Words (λ early. early) (λ unlogged. unlogged.said) (λ drawn strange. strange) (λ drawn pictured. pictured.text) h

pub never_frames : (layout log : List ℕ) (entry exit : Moment) → IsFramesEnd layout log entry exit ending.Words → ⊥
never_frames layout log entry exit h =
    by_frames ⊥ layout log entry exit ending.Words (λ early. early) (λ unqueued. unqueued.said) (λ untabled. untabled.said) (λ d unplanned. unplanned) (λ d tabled. tabled.text) h

pub never_stop : (layout prefix : List ℕ) (from : ℕ) (entry exit : Moment) → IsStopEnd layout prefix from entry exit ending.Words → ⊥
never_stop layout prefix from entry exit h =
    by_stop ⊥ layout prefix from entry exit ending.Words (λ early. early) (λ taken. taken.said) (λ unloaded. unloaded.said) (λ unrun. words_unrun unrun.0) (λ un. un.said) (λ ran. elim ran.filed [ inl all ↦ all.1.2 | inr some ↦ some ]) h

pub never_resume : (layout prefix : List ℕ) (entry exit : Moment) → IsResumeEnd layout prefix entry exit ending.Words → ⊥
never_resume layout prefix entry exit h =
    by_resume ⊥ layout prefix entry exit ending.Words (λ early. early) (λ taken. taken.said) (λ unloaded. unloaded.said) (λ unrun. words_unrun unrun.0) (λ un. un.said) (λ ran. elim ran.filed [ inl all ↦ all.1.2 | inr some ↦ some ]) h

-- words of no form
none_of : (o : Option Asked) (entry exit : Moment) → IsEndOf o entry exit ending.Words → o ≡ None
none_of None entry exit h = refl
none_of (Some Help) entry exit h = absurd h.0
none_of (Some Version) entry exit h = absurd h.0
none_of (Some (Check layout)) entry exit h = elim h.1 [ inl early ↦ absurd early | inr checked ↦ absurd checked.written ]
none_of (Some (Slack layout)) entry exit h = elim h.1 [ inl early ↦ absurd early | inr checked ↦ absurd checked.written ]
none_of (Some (Plain layout prefix)) entry exit h = absurd (never_words layout prefix entry exit h)
none_of (Some (Run layout prefix workers)) entry exit h = absurd (never_words layout prefix entry exit h)
none_of (Some (Stop layout prefix from)) entry exit h = absurd (never_stop layout prefix from entry exit h)
none_of (Some (Resume layout prefix)) entry exit h = absurd (never_resume layout prefix entry exit h)
none_of (Some (Demo number workers)) entry exit h = absurd (never_demo number entry exit h)
none_of (Some (Probe told layout from to taps)) entry exit h = absurd (never_probe told layout from to taps entry exit h)
none_of (Some (Meter log)) entry exit h = absurd (never_meter log entry exit h)
none_of (Some (Picture layout log from to)) entry exit h = absurd (never_picture layout log from to entry exit h)
none_of (Some (Frames layout log)) entry exit h = absurd (never_frames layout log entry exit h)

one_of : (o : Option Asked) (entry exit : Moment) (e : Ending) → o ≡ None → IsEndOf o entry exit e → status_of e ≡ 1
one_of o entry exit e none end = let h : IsEndOf None entry exit e = subst (λ a. IsEndOf a entry exit e) none end in ap status_of h.0

-- status 1 exactly where the words are none of the forms
pub words_of_none : (words : List (List ℕ)) (entry exit : Moment) (status : ℕ) → IsAnswer words entry exit status → (status ≡ 1) ↔ (asked words ≡ None)
words_of_none words entry exit status answer =
    (λ one. none_of (asked words) entry exit (end_at words entry exit status 1 answer one), λ none. answer.is ∙ one_of (asked words) entry exit answer.by none answer.allowed)

-- a status that is below 1, or 5, or 6
not_refusal : (k : ℕ) → (k < 1) ⊎ ((4 < k) × (k < 7)) → IsRefusal k → ⊥
not_refusal k other r =
    elim r [
      | inl e ↦ apart k 1 other e (λ h. omega (arith, h)) (λ h. omega (arith, h))
      | inr s ↦ elim s [
        | inl e ↦ apart k 2 other e (λ h. omega (arith, h)) (λ h. omega (arith, h))
        | inr t ↦ elim t [
          | inl e ↦ apart k 3 other e (λ h. omega (arith, h)) (λ h. omega (arith, h))
          | inr u ↦ elim u [
            | inl e ↦ apart k 4 other e (λ h. omega (arith, h)) (λ h. omega (arith, h))
            | inr v ↦ elim v [
              | inl e ↦ apart k 7 other e (λ h. omega (arith, h)) (λ h. omega (arith, h))
              | inr w ↦ elim w [
                | inl e ↦ apart k 8 other e (λ h. omega (arith, h)) (λ h. omega (arith, h))
                | inr x ↦ elim x [
                  | inl e ↦ apart k 9 other e (λ h. omega (arith, h)) (λ h. omega (arith, h))
                  | inr y ↦ elim y [
                    | inl e ↦ apart k 10 other e (λ h. omega (arith, h)) (λ h. omega (arith, h))
                    | inr z ↦ elim z [
                      | inl e ↦ apart k 11 other e (λ h. omega (arith, h)) (λ h. omega (arith, h))
                      | inr e ↦ apart k 12 other e (λ h. omega (arith, h)) (λ h. omega (arith, h))
                    ]
                  ]
                ]
              ]
            ]
          ]
        ]
      ]
    ]
  where
    apart : (k n : ℕ) → (k < 1) ⊎ ((4 < k) × (k < 7)) → k ≡ n → (n < 1 → ⊥) → ((4 < n) × (n < 7) → ⊥) → ⊥
    apart k n other e low high = elim other [ inl h ↦ low (omega (arith, h, e)) | inr h ↦ high (omega (arith, h.0, e), omega (arith, h.1, e)) ]

-- a run that began its files is no refusal
filed_no_refusal : (files : List File) (IsRight : List ℕ → Type 0) (entry exit : Moment) (e : Ending) → IsFiledEnd files IsRight entry exit e → IsRefusal (status_of e) → ⊥
filed_no_refusal files IsRight entry exit ending.Done filed r = not_refusal 0 (inl (omega arith)) r
filed_no_refusal files IsRight entry exit ending.Words filed r = elim filed [ inl all ↦ all.1.2 | inr some ↦ some ]
filed_no_refusal files IsRight entry exit ending.Layout filed r = elim filed [ inl all ↦ all.1.2 | inr some ↦ some ]
filed_no_refusal files IsRight entry exit ending.Load filed r = elim filed [ inl all ↦ all.1.2 | inr some ↦ some ]
filed_no_refusal files IsRight entry exit ending.Read filed r = elim filed [ inl all ↦ all.1.2 | inr some ↦ some ]
filed_no_refusal files IsRight entry exit ending.Write filed r = not_refusal 5 (inr (omega arith, omega arith)) r
filed_no_refusal files IsRight entry exit ending.Memory filed r = not_refusal 6 (inr (omega arith, omega arith)) r
filed_no_refusal files IsRight entry exit ending.Probe filed r = elim filed [ inl all ↦ all.1.2 | inr some ↦ some ]
filed_no_refusal files IsRight entry exit ending.Log filed r = elim filed [ inl all ↦ all.1.2 | inr some ↦ some ]
filed_no_refusal files IsRight entry exit ending.Stranger filed r = elim filed [ inl all ↦ all.1.2 | inr some ↦ some ]
filed_no_refusal files IsRight entry exit ending.Unquiet filed r = elim filed [ inl all ↦ all.1.2 | inr some ↦ some ]
filed_no_refusal files IsRight entry exit ending.State filed r = elim filed [ inl all ↦ all.1.2 | inr some ↦ some ]
filed_no_refusal files IsRight entry exit ending.Output filed r = elim filed [ inl all ↦ all.1.2 | inr some ↦ some ]

plain_kept : (layout prefix : List ℕ) (entry exit : Moment) (e : Ending) → IsPlainEnd layout prefix entry exit e → IsRefusal (status_of e) → exit.held ≡ entry.held
plain_kept layout prefix entry exit e h r =
    elim h [
      | inl none ↦ elim none [ inl early ↦ early.1 | inr later ↦ elim later [ inl taken ↦ taken.1 | inr last ↦ elim last [ inl unloaded ↦ unloaded.1 | inr unrun ↦ unrun.1 ] ] ]
      | inr run ↦ absurd (filed_no_refusal (run_files prefix run.plan) (IsSummary run.plan) entry exit e run.filed r)
    ]

stop_kept : (layout prefix : List ℕ) (from : ℕ) (entry exit : Moment) (e : Ending) → IsStopEnd layout prefix from entry exit e → IsRefusal (status_of e) → exit.held ≡ entry.held
stop_kept layout prefix from entry exit e h r =
    elim h [
      | inl none ↦ elim none [ inl early ↦ early.1 | inr later ↦ elim later [ inl taken ↦ taken.1 | inr last ↦ elim last [ inl unloaded ↦ unloaded.1 | inr unrun ↦ unrun.1 ] ] ]
      | inr last ↦ elim last [ inl un ↦ un.held | inr ran ↦ absurd (filed_no_refusal (state_files prefix ran.plan ran.t) (IsStopLine ran.t) entry exit e ran.filed r) ]
    ]

resume_kept : (layout prefix : List ℕ) (entry exit : Moment) (e : Ending) → IsResumeEnd layout prefix entry exit e → IsRefusal (status_of e) → exit.held ≡ entry.held
resume_kept layout prefix entry exit e h r =
    elim h [
      | inl none ↦ elim none [ inl early ↦ early.1 | inr later ↦ elim later [ inl taken ↦ taken.1 | inr last ↦ elim last [ inl unloaded ↦ unloaded.1 | inr unrun ↦ unrun.1 ] ] ]
      | inr last ↦ elim last [ inl un ↦ un.held | inr ran ↦ absurd (filed_no_refusal (resumed_files prefix ran.plan ran.state) (IsResumedSummary ran.plan ran.state) entry exit e ran.filed r) ]
    ]

kept_of : (o : Option Asked) (entry exit : Moment) (e : Ending) → IsEndOf o entry exit e → IsRefusal (status_of e) → exit.held ≡ entry.held
kept_of None entry exit e h r = h.1
kept_of (Some Help) entry exit e h r = h.1
kept_of (Some Version) entry exit e h r = h.1
kept_of (Some (Check layout)) entry exit e h r = h.0
kept_of (Some (Slack layout)) entry exit e h r = h.0
kept_of (Some (Plain layout prefix)) entry exit e h r = plain_kept layout prefix entry exit e h r
kept_of (Some (Run layout prefix workers)) entry exit e h r = plain_kept layout prefix entry exit e h r
kept_of (Some (Stop layout prefix from)) entry exit e h r = stop_kept layout prefix from entry exit e h r
kept_of (Some (Resume layout prefix)) entry exit e h r = resume_kept layout prefix entry exit e h r
kept_of (Some (Demo number workers)) entry exit e h r = h.1
kept_of (Some (Probe told layout from to taps)) entry exit e h r = h.0
kept_of (Some (Meter log)) entry exit e h r = h.0
kept_of (Some (Picture layout log from to)) entry exit e h r = h.0
kept_of (Some (Frames layout log)) entry exit e h r = h.0

-- the statuses 1 to 4 and 7 to 12 leave every file as at entry
pub refused : (words : List (List ℕ)) (entry exit : Moment) (status : ℕ) → IsAnswer words entry exit status → IsRefusal status → exit.held ≡ entry.held
refused words entry exit status answer r = kept_of (asked words) entry exit answer.by answer.allowed (subst (λ n. IsRefusal n) answer.is r)

plain_failed : (layout prefix : List ℕ) (entry exit : Moment) → IsPlainEnd layout prefix entry exit ending.Write → Rose entry.writes exit.writes ⊎ Rose entry.faults exit.faults
plain_failed layout prefix entry exit h =
    by_way (Rose entry.writes exit.writes ⊎ Rose entry.faults exit.faults) layout prefix entry exit ending.Write (λ early. absurd early) (λ taken. absurd taken.said) (λ unloaded. absurd unloaded.said) (λ unrun. absurd (write_unrun unrun.0))
    (λ run. elim run.filed [ inl all ↦ inr all.1.2.1 | inr some ↦ inl some.1 ]) h

stop_failed : (layout prefix : List ℕ) (from : ℕ) (entry exit : Moment) → IsStopEnd layout prefix from entry exit ending.Write → Rose entry.writes exit.writes ⊎ Rose entry.faults exit.faults
stop_failed layout prefix from entry exit h =
    by_stop (Rose entry.writes exit.writes ⊎ Rose entry.faults exit.faults) layout prefix from entry exit ending.Write (λ early. absurd early) (λ taken. absurd taken.said) (λ unloaded. absurd unloaded.said) (λ unrun. absurd (write_unrun unrun.0)) (λ un. absurd un.said) (λ ran. elim ran.filed [ inl all ↦ inr all.1.2.1 | inr some ↦ inl some.1 ]) h

resume_failed : (layout prefix : List ℕ) (entry exit : Moment) → IsResumeEnd layout prefix entry exit ending.Write → Rose entry.writes exit.writes ⊎ Rose entry.faults exit.faults
resume_failed layout prefix entry exit h =
    by_resume (Rose entry.writes exit.writes ⊎ Rose entry.faults exit.faults) layout prefix entry exit ending.Write (λ early. absurd early) (λ taken. absurd taken.said) (λ unloaded. absurd unloaded.said) (λ unrun. absurd (write_unrun unrun.0)) (λ un. absurd un.said) (λ ran. elim ran.filed [ inl all ↦ inr all.1.2.1 | inr some ↦ inl some.1 ]) h

demo_failed : (number : ℕ) (entry exit : Moment) → IsDemoEnd number entry exit ending.Write → Rose entry.writes exit.writes ⊎ Rose entry.faults exit.faults
demo_failed number entry exit h =
    by_demo (Rose entry.writes exit.writes ⊎ Rose entry.faults exit.faults) number entry exit ending.Write (λ is written. absurd (write_unrun is)) (λ text right written. inr written.1) h

probe_failed : (told : Report) (layout : List ℕ) (from to : ℕ) (taps : List (List ℕ)) (entry exit : Moment) → IsProbeEnd told layout from to taps entry exit ending.Write → Rose entry.writes exit.writes ⊎ Rose entry.faults exit.faults
probe_failed told layout from to taps entry exit h =
    by_probe (Rose entry.writes exit.writes ⊎ Rose entry.faults exit.faults) told layout from to taps entry exit ending.Write (λ early. absurd early) (λ missed. absurd missed.missed) (λ unprobed. absurd unprobed.said)
    (λ probed. inr probed.written.1) h

meter_failed : (log : List ℕ) (entry exit : Moment) → IsMeterEnd log entry exit ending.Write → Rose entry.writes exit.writes ⊎ Rose entry.faults exit.faults
meter_failed log entry exit h =
    by_meter (Rose entry.writes exit.writes ⊎ Rose entry.faults exit.faults) log entry exit ending.Write (λ unmetered. absurd unmetered) (λ metered. inr metered.written.1) h

picture_failed : (layout log : List ℕ) (from to : ℕ) (entry exit : Moment) → IsPictureEnd layout log from to entry exit ending.Write → Rose entry.writes exit.writes ⊎ Rose entry.faults exit.faults
picture_failed layout log from to entry exit h =
    by_picture (Rose entry.writes exit.writes ⊎ Rose entry.faults exit.faults) layout log from to entry exit ending.Write (λ early. absurd early) (λ unlogged. absurd unlogged.said) (λ drawn strange. absurd strange)
    (λ drawn pictured. inr pictured.text.1) h

frames_failed : (layout log : List ℕ) (entry exit : Moment) → IsFramesEnd layout log entry exit ending.Write → Rose entry.writes exit.writes ⊎ Rose entry.faults exit.faults
frames_failed layout log entry exit h =
    by_frames (Rose entry.writes exit.writes ⊎ Rose entry.faults exit.faults) layout log entry exit ending.Write (λ early. absurd early) (λ unqueued. absurd unqueued.said) (λ untabled. absurd untabled.said)
    (λ d unplanned. absurd unplanned) (λ d tabled. inr tabled.text.1) h

failed_of : (o : Option Asked) (entry exit : Moment) → IsEndOf o entry exit ending.Write → Rose entry.writes exit.writes ⊎ Rose entry.faults exit.faults
failed_of None entry exit h = absurd (words_done h.0)
failed_of (Some Help) entry exit h = inr h.0.1
failed_of (Some Version) entry exit h = inr h.0.1
failed_of (Some (Check layout)) entry exit h = elim h.1 [ inl early ↦ absurd early | inr checked ↦ inr checked.written.1 ]
failed_of (Some (Slack layout)) entry exit h = elim h.1 [ inl early ↦ absurd early | inr checked ↦ inr checked.written.1 ]
failed_of (Some (Plain layout prefix)) entry exit h = plain_failed layout prefix entry exit h
failed_of (Some (Run layout prefix workers)) entry exit h = plain_failed layout prefix entry exit h
failed_of (Some (Stop layout prefix from)) entry exit h = stop_failed layout prefix from entry exit h
failed_of (Some (Resume layout prefix)) entry exit h = resume_failed layout prefix entry exit h
failed_of (Some (Demo number workers)) entry exit h = demo_failed number entry exit h
failed_of (Some (Probe told layout from to taps)) entry exit h = probe_failed told layout from to taps entry exit h
failed_of (Some (Meter log)) entry exit h = meter_failed log entry exit h
failed_of (Some (Picture layout log from to)) entry exit h = picture_failed layout log from to entry exit h
failed_of (Some (Frames layout log)) entry exit h = frames_failed layout log entry exit h

-- status 5 comes of a failed write
pub failed : (words : List (List ℕ)) (entry exit : Moment) (status : ℕ) → IsAnswer words entry exit status → status ≡ 5 → Rose entry.writes exit.writes ⊎ Rose entry.faults exit.faults
failed words entry exit status answer five = failed_of (asked words) entry exit (end_at words entry exit status 5 answer five)
