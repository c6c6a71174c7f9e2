-- The status of meter is that of its log, and what it leaves.
use Rattle.std.proofs.Common.{◌≡◌, ◌≤◌, ◌⊎◌, ℕ, Option, None, Some, Ok, Err, List, length, refl, subst, inl, inr, arith}
use Rattle.std.specs.Prelude.{IfSome}
use Rattle.log_meter.proofs.LinesApart.{one_judgement}
use Rattle.log_meter.specs.Logs.{IsLogOf, most_log_octets}
use Rattle.log_meter.specs.declared.fault.LogFault.{LogFault}
use Rattle.log_meter.specs.declared.fault.LogFault.TheVariants as fault
use Rattle.log_meter.specs.declared.line.LogLine.{LogLine}
use Rattle.outside.specs.Files.{Files, IsAbsent, Rose}
use Rattle.run_endings.specs.declared.endings.Ending.{Ending}
use Rattle.run_endings.specs.declared.endings.Ending.TheVariants as ending
use Rattle.program_endings.specs.Answers.{IsEndOf}
use Rattle.run_endings.specs.Answers.{status_of}
use Rattle.program_endings.specs.Endings.{IsLogFaultSaid, IsMeterEnd, IsUnmetered}
use Rattle.program_endings.specs.MeterLaws.{AreLogFaultsSaid, AreMetersComplete, AreMetersCutShort, AreMetersRefused, DoAbsentLogsDecide, DoLogFaultsDecide, DoMetersKeepFiles}
use Rattle.program_endings.specs.Meters.{HasLog, HasLogFault, IsFaultOfLog, IsFaultyLog, IsMeterText, IsReadLog}
use Rattle.run_endings.specs.Moments.{Moment}
use Rattle.run_endings.specs.Reading.{front_of}
use Rattle.program_words.specs.Requests.{Asked, asked, Check, Slack, Plain, Run, Stop, Resume, Demo, Probe, Meter, Picture, Frames, Help, Version}
use Rattle.program_endings.specs.Statuses.{IsDoneOrMemory, IsFaultStatus, IsMeterCut, IsMeterDone, IsLogWith, IsUnreadOrMemory}
use Rattle.program_endings.proofs.EndingsByStatus.{by_demo, by_meter, by_picture, by_probe, by_resume, by_stop, end_at, meter_end, by_frames}
use Rattle.run_endings.proofs.WaysOfEnding.{by_way}
use Rattle.program_endings.proofs.LayoutDecidesStatus.{some_of, unread_status}
use Rattle.program_endings.proofs.LoadsDecideStatus.{text_whole}

-- octets that are a log have no fault
faultless : (octets : List ℕ) (f : LogFault) (lines : List LogLine) → length octets ≤ most_log_octets → IsLogOf octets lines → IsFaultOfLog octets f → ⊥
faultless octets fault.TooLarge lines few log faulty = omega (arith, few, faulty)
faultless octets (fault.BadLine n) lines few log faulty = let e = one_judgement octets (Ok lines) (Err (fault.BadLine n)) log faulty.1 in cc
faultless octets (fault.Order n) lines few log faulty = let e = one_judgement octets (Ok lines) (Err (fault.Order n)) log faulty.1 in cc
faultless octets fault.OutOfMemory lines few log faulty = faulty

-- what is read of a log is only ever the same
pub same_octets : (log : List ℕ) (files : Files) (a b : List ℕ) → IsReadLog log (Some files) a → IsReadLog log (Some files) b → a ≡ b
same_octets log files a b one two = cc

pub log_or_fault : (log : List ℕ) (files : Files) (octets : List ℕ) (lines : List LogLine) → IsReadLog log (Some files) octets → length octets ≤ most_log_octets → IsLogOf octets lines → IsFaultyLog log (Some files) → ⊥
log_or_fault log files octets lines read few is has =
    faultless octets has.0 lines few is (subst (λ (xs : List ℕ). IsFaultOfLog xs has.0) (same_octets log files has.1.octets octets has.1.read read) has.1.faulty)

-- a log that isn't held isn't read
pub absent_unread : (log : List ℕ) (held : Option Files) (octets : List ℕ) → IsAbsent log held → IsReadLog log held octets → ⊥
unfolding front_of
absent_unread log None octets absent read = absent
absent_unread log (Some files) octets absent read = let e = rw absent at read in cc

-- a log whose figures were told has no fault
told_faultless : (X : Type 0) (log : List ℕ) (held : Option Files) (text : List ℕ) → IsMeterText log held text → IfSome held (λ files. IsFaultyLog log (Some files) → X)
told_faultless X log None text right = tt
told_faultless X log (Some files) text right = λ has. absurd (log_or_fault log files right.octets right.figures.lines right.read right.few right.figures.log has)

pub absent_faulty : (log : List ℕ) (files : Files) → IsAbsent log (Some files) → IsFaultyLog log (Some files) → ⊥
absent_faulty log files absent has = absent_unread log (Some files) has.1.octets absent has.1.read

module _ (log : List ℕ) (before after : Moment) where
  unmetered_faulty : (e : Ending) → IsUnmetered log before after e → IfSome before.held (λ files. IsFaultyLog log (Some files) → IsFaultStatus 8 (status_of e) before.reads after.reads)
  unmetered_faulty ending.Done h = absurd h
  unmetered_faulty ending.Words h = absurd h
  unmetered_faulty ending.Layout h = absurd h
  unmetered_faulty ending.Load h = absurd h
  unmetered_faulty ending.Read h =
      unread_status (IsFaultStatus 8 4 before.reads after.reads) log before.held before.reads after.reads (λ files. IsFaultyLog log (Some files)) (absent_faulty log) (λ rose. inr (inr (refl, rose))) h.0
  unmetered_faulty ending.Write h = absurd h
  unmetered_faulty ending.Memory h = some_of before.held _ (λ files has. inr (inl refl))
  unmetered_faulty ending.Probe h = absurd h
  unmetered_faulty ending.Log h = some_of before.held _ (λ files has. inl refl)
  unmetered_faulty ending.Stranger h = absurd h
  unmetered_faulty ending.Unquiet h = absurd h
  unmetered_faulty ending.State h = absurd h
  unmetered_faulty ending.Output h = absurd h

  unmetered_absent : (e : Ending) → IsUnmetered log before after e → IsAbsent log before.held → IsUnreadOrMemory (status_of e)
  unmetered_absent ending.Done h absent = absurd h
  unmetered_absent ending.Words h absent = absurd h
  unmetered_absent ending.Layout h absent = absurd h
  unmetered_absent ending.Load h absent = absurd h
  unmetered_absent ending.Read h absent = inl refl
  unmetered_absent ending.Write h absent = absurd h
  unmetered_absent ending.Memory h absent = inr refl
  unmetered_absent ending.Probe h absent = absurd h
  unmetered_absent ending.Log h absent = absurd (absent_unread log before.held h.1.octets absent h.1.read)
  unmetered_absent ending.Stranger h absent = absurd h
  unmetered_absent ending.Unquiet h absent = absurd h
  unmetered_absent ending.State h absent = absurd h
  unmetered_absent ending.Output h absent = absurd h

-- status 8 where the log has a fault
pub log_faults_decide : DoLogFaultsDecide
log_faults_decide words entry exit status answer log is =
    rw answer.is (by_meter (IfSome entry.held (λ files. IsFaultyLog log (Some files) → IsFaultStatus 8 (status_of answer.by) entry.reads exit.reads)) log entry exit answer.by
    (unmetered_faulty log entry exit answer.by) (λ metered. told_faultless (IsFaultStatus 8 (status_of answer.by) entry.reads exit.reads) log entry.held metered.text metered.right)
    (meter_end (asked words) log entry exit answer.by is answer.allowed))

-- status 4 where the log isn't held
pub absent_logs_decide : DoAbsentLogsDecide
absent_logs_decide words entry exit status answer log is absent =
    rw answer.is (by_meter (IsUnreadOrMemory (status_of answer.by)) log entry exit answer.by (λ unmetered. unmetered_absent log entry exit answer.by unmetered absent)
    (λ metered. absurd (absent_unread log entry.held metered.right.octets absent metered.right.read)) (meter_end (asked words) log entry exit answer.by is answer.allowed))

words_log : ending.Log ≡ ending.Words → ⊥
words_log e = cc

log_unrun : ending.Log ≡ ending.Memory → ⊥
log_unrun e = cc

-- status 8 comes of a log with a fault
log_faulty_of : (o : Option Asked) (entry exit : Moment) → IsEndOf o entry exit ending.Log → IsLogWith o (λ log. IsLogFaultSaid log entry exit)
log_faulty_of None entry exit h = absurd (words_log h.0)
log_faulty_of (Some Help) entry exit h = absurd h.0
log_faulty_of (Some Version) entry exit h = absurd h.0
log_faulty_of (Some (Check layout)) entry exit h = elim h.1 [ inl early ↦ absurd early | inr checked ↦ absurd checked.written ]
log_faulty_of (Some (Slack layout)) entry exit h = elim h.1 [ inl early ↦ absurd early | inr checked ↦ absurd checked.written ]
log_faulty_of (Some (Plain layout prefix)) entry exit h =
    by_way ⊥ layout prefix entry exit ending.Log (λ early. early) (λ taken. taken.said) (λ unloaded. unloaded.said) (λ unrun. log_unrun unrun.0) (λ run. elim run.filed [ inl all ↦ all.1.2 | inr some ↦ some ]) h
log_faulty_of (Some (Run layout prefix workers)) entry exit h =
    by_way ⊥ layout prefix entry exit ending.Log (λ early. early) (λ taken. taken.said) (λ unloaded. unloaded.said) (λ unrun. log_unrun unrun.0) (λ run. elim run.filed [ inl all ↦ all.1.2 | inr some ↦ some ]) h
log_faulty_of (Some (Stop layout prefix from)) entry exit h =
    by_stop ⊥ layout prefix from entry exit ending.Log (λ early. early) (λ taken. taken.said) (λ unloaded. unloaded.said) (λ unrun. log_unrun unrun.0) (λ un. un.said) (λ ran. elim ran.filed [ inl all ↦ all.1.2 | inr some ↦ some ]) h
log_faulty_of (Some (Resume layout prefix)) entry exit h =
    by_resume ⊥ layout prefix entry exit ending.Log (λ early. early) (λ taken. taken.said) (λ unloaded. unloaded.said) (λ unrun. log_unrun unrun.0) (λ un. un.said) (λ ran. elim ran.filed [ inl all ↦ all.1.2 | inr some ↦ some ]) h
log_faulty_of (Some (Demo number workers)) entry exit h = by_demo ⊥ number entry exit ending.Log (λ is written. log_unrun is) (λ text right written. written) h
log_faulty_of (Some (Probe told layout from to taps)) entry exit h =
    by_probe ⊥ told layout from to taps entry exit ending.Log (λ early. early) (λ missed. missed.missed) (λ unprobed. unprobed.said) (λ probed. probed.written) h
log_faulty_of (Some (Meter log)) entry exit h = by_meter (IsLogFaultSaid log entry exit) log entry exit ending.Log (λ unmetered. unmetered) (λ metered. absurd metered.written) h
log_faulty_of (Some (Picture layout log from to)) entry exit h =
    by_picture (IsLogFaultSaid log entry exit) layout log from to entry exit ending.Log (λ early. absurd early) (λ unlogged. unlogged.said) (λ drawn strange. absurd strange) (λ drawn pictured. absurd pictured.text) h
log_faulty_of (Some (Frames layout log)) entry exit h =
    by_frames (IsLogFaultSaid log entry exit) layout log entry exit ending.Log (λ early. absurd early) (λ unqueued. absurd unqueued.said) (λ untabled. untabled.said) (λ d unplanned. absurd unplanned) (λ d tabled. absurd tabled.text) h

pub log_faults_are_said : AreLogFaultsSaid
log_faults_are_said words entry exit status answer is = log_faulty_of (asked words) entry exit (end_at words entry exit status 8 answer is)

-- meter was done
pub meter_done : (log : List ℕ) (before after : Moment) → IsMeterEnd log before after ending.Done → IsMeterDone log before after
meter_done log before after h =
    by_meter (IsMeterDone log before after) log before after ending.Done (λ unmetered. absurd unmetered) (λ m. record { text = m.text; right = m.right; written = m.written; held = h.0 }) h

pub meters_are_cut_short : AreMetersCutShort
meters_are_cut_short words entry exit status answer five log is =
    by_meter (Rose entry.faults exit.faults × IsMeterCut log entry exit) log entry exit ending.Write (λ unmetered. absurd unmetered)
    (λ m. (m.written.1, record { text = m.text; right = m.right; cut = m.written.0 })) (meter_end (asked words) log entry exit ending.Write is (end_at words entry exit status 5 answer five))

pub meters_are_refused : AreMetersRefused
meters_are_refused words entry exit status answer six log is =
    by_meter ((exit.written ≡ entry.written) ⊎ IsMeterCut log entry exit) log entry exit ending.Memory (λ unmetered. inl unmetered)
    (λ m. inr (record { text = m.text; right = m.right; cut = m.written })) (meter_end (asked words) log entry exit ending.Memory is (end_at words entry exit status 6 answer six))

pub meters_keep_files : DoMetersKeepFiles
meters_keep_files words entry exit status answer log is = (meter_end (asked words) log entry exit answer.by is answer.allowed).0

-- a log without fault that nothing hinders
abbrev pub LogSays : List ℕ → ℕ → ℕ → ℕ → ℕ → ℕ → Files → Type 0
LogSays log reads read faults faulted n files = (lines : List LogLine) → HasLog log (Some files) lines → ¬ Rose reads read → ¬ Rose faults faulted → IsDoneOrMemory n

unread_whole : (log : List ℕ) (held : Option Files) (reads read faults faulted : ℕ) → IsAbsent log held ⊎ Rose reads read → IfSome held (LogSays log reads read faults faulted 4)
unread_whole log None reads read faults faulted unread = tt
unread_whole log (Some files) reads read faults faulted unread =
    λ lines has r f. elim unread [ inl absent ↦ absurd (absent_unread log (Some files) has.octets absent has.read) | inr rose ↦ absurd (r rose) ]

faulty_whole : (log : List ℕ) (held : Option Files) (f : LogFault) (reads read faults faulted : ℕ) → HasLogFault log held f → IfSome held (LogSays log reads read faults faulted 8)
faulty_whole log None f reads read faults faulted faulty = tt
faulty_whole log (Some files) f reads read faults faulted faulty = λ lines has r w. absurd (log_or_fault log files has.octets lines has.read has.few has.log_of (f, faulty))

module _ (log : List ℕ) (before after : Moment) where
  pub unmetered_whole : (e : Ending) → IsUnmetered log before after e → IfSome before.held (LogSays log before.reads after.reads before.faults after.faults (status_of e))
  unmetered_whole ending.Done h = absurd h
  unmetered_whole ending.Words h = absurd h
  unmetered_whole ending.Layout h = absurd h
  unmetered_whole ending.Load h = absurd h
  unmetered_whole ending.Read h = unread_whole log before.held before.reads after.reads before.faults after.faults h.0
  unmetered_whole ending.Write h = absurd h
  unmetered_whole ending.Memory h = some_of before.held _ (λ files lines has r f. inr refl)
  unmetered_whole ending.Probe h = absurd h
  unmetered_whole ending.Log h = faulty_whole log before.held h.0 before.reads after.reads before.faults after.faults h.1
  unmetered_whole ending.Stranger h = absurd h
  unmetered_whole ending.Unquiet h = absurd h
  unmetered_whole ending.State h = absurd h
  unmetered_whole ending.Output h = absurd h

-- meter is done where nothing hinders it
pub meters_are_complete : AreMetersComplete
meters_are_complete words entry exit status answer log is =
    rw answer.is (by_meter (IfSome entry.held (LogSays log entry.reads exit.reads entry.faults exit.faults (status_of answer.by))) log entry exit answer.by (unmetered_whole log entry exit answer.by)
    (λ m. some_of entry.held _ (λ files lines has r f. text_whole m.text entry exit answer.by m.written f)) (meter_end (asked words) log entry exit answer.by is answer.allowed))
