-- Where what is read has no fault and nothing outside fails, the answer is one to rely on: form by form.
use Rattle.std.proofs.Common.{◌≡◌, ◌⊎◌, ℕ, Option, None, Some, Ok, List, refl, ap, inl, inr}
use Rattle.std.specs.Prelude.{IfSome}
use Rattle.frame_table.specs.Unplanned.{first_unplanned}
use Rattle.layout.specs.declared.lines.Layout.{Layout}
use Rattle.load_plan.specs.declared.plan.Plan.{Plan}
use Rattle.log_meter.specs.declared.line.LogLine.{LogLine}
use Rattle.outside.specs.Files.{Files, Rose}
use Rattle.program_words.specs.Requests.{Asked, asked, Check, Slack, Plain, Run, Stop, Resume, Demo, Probe, Meter, Picture, Frames, Help, Version}
use Rattle.program_words.specs.declared.words.Report.{Report}
use Rattle.report_texts.specs.SlackTexts.{IsSlackText}
use Rattle.program_texts.specs.Verdicts.{IsVerdictLine}
use Rattle.program_texts.specs.declared.texts.TheConstants.{HELP, VERSION}
use Rattle.run_picture.specs.Pictures.{picture_of}
use Rattle.run_picture.specs.Strangers.{first_stranger}
use Rattle.run_endings.specs.declared.endings.Ending.{Ending}
use Rattle.run_endings.specs.declared.endings.Ending.TheVariants as ending
use Rattle.program_endings.specs.Answers.{IsEndOf}
use Rattle.run_endings.specs.Answers.{status_of}
use Rattle.run_endings.specs.Endings.{IsEarly, IsJudged, IsPlainEnd, IsTaken, IsTellingEnd, IsUnloadedSaid}
use Rattle.program_endings.specs.Endings.{IsPictureEnd, IsStopEnd, IsStrangeEnd, IsFramesEnd}
use Rattle.program_endings.specs.ProbeEnds.{IsAimEnd, IsProbeEnd}
use Rattle.program_endings.specs.FrameTables.{IsUnplannedEnd}
use Rattle.run_endings.specs.Moments.{Moment}
use Rattle.program_endings.specs.Probes.{HasNoAim}
use Rattle.program_endings.specs.StoppedRuns.{IsStopLine, state_files}
use Rattle.run_endings.specs.Runs.{IsSummary, run_files}
use Rattle.program_endings.specs.SoundInputs.{AreAnswersReliable, AreInputsSound, IsNotThere}
use Rattle.program_endings.specs.Statuses.{IsDoneOrMemory, IsNetworkWith}
use Rattle.run_endings.specs.WrittenNames.{AreNamesFree, RunOf, StateOf, ToWrite}
use Rattle.program_endings.proofs.EndingsByStatus.{by_demo, by_meter, by_picture, by_probe, by_stop, by_frames}
use Rattle.run_endings.proofs.WaysOfEnding.{by_way}
use Rattle.program_endings.proofs.LoadsDecideStatus.{AnyNetwork, early_known, early_told, filed_whole, known_telling, taken_known, telling_known, text_whole, unloaded_known}
use Rattle.program_endings.proofs.LayoutDecidesStatus.{some_of}
use Rattle.program_endings.proofs.MetersAreTold.{LogSays, unmetered_whole}
use Rattle.program_endings.proofs.StopsAreLeft.{WholeDone, done_planned, resume_whole, whole_done}
use Rattle.program_endings.proofs.StopsAreTold.{IfPlanned, always_planned, unquiet_status, unrun_status}

-- what follows from more
if_some : (held : Option Files) (P Q : Files → Type 0) → ((files : Files) → P files → Q files) → IfSome held P → IfSome held Q
if_some None P Q more h = tt
if_some (Some files) P Q more h = more files h

-- Q holds of the layout of the plan
abbrev PlanWith : (Layout → Type 0) → Files → Plan → Type 0
PlanWith Q files plan = Q plan.layout

-- an ending after which it was said that what a probe aims at isn't there, with its status
missed_with : (told : Report) (network : Layout) (to : ℕ) (taps : List (List ℕ)) (before after : Moment) (e : Ending) → IsAimEnd told network to taps before after e
    → IsDoneOrMemory (status_of e) ⊎ ((status_of e ≡ 7) × HasNoAim network to taps)
missed_with told network to taps before after ending.Done h = absurd h
missed_with told network to taps before after ending.Words h = absurd h
missed_with told network to taps before after ending.Layout h = absurd h
missed_with told network to taps before after ending.Load h = absurd h
missed_with told network to taps before after ending.Read h = absurd h
missed_with told network to taps before after ending.Write h = absurd h
missed_with told network to taps before after ending.Memory h = inl (inr refl)
missed_with told network to taps before after ending.Probe h = inr (refl, elim h.1 [ inl unknown ↦ inl (unknown.0, unknown.1) | inr past ↦ inr past.2 ])
missed_with told network to taps before after ending.Log h = absurd h
missed_with told network to taps before after ending.Stranger h = absurd h
missed_with told network to taps before after ending.Unquiet h = absurd h
missed_with told network to taps before after ending.State h = absurd h
missed_with told network to taps before after ending.Output h = absurd h

-- an ending after which it was said which line of a log names what a network lacks, with its status
strange_with : (network : Layout) (lines : List LogLine) (before after : Moment) (e : Ending) → IsStrangeEnd network lines before after e
    → IsDoneOrMemory (status_of e) ⊎ ((status_of e ≡ 11) × ((n : ℕ) × (first_stranger network lines ≡ Some n)))
strange_with network lines before after ending.Done h = absurd h
strange_with network lines before after ending.Words h = absurd h
strange_with network lines before after ending.Layout h = absurd h
strange_with network lines before after ending.Load h = absurd h
strange_with network lines before after ending.Read h = absurd h
strange_with network lines before after ending.Write h = absurd h
strange_with network lines before after ending.Memory h = inl (inr refl)
strange_with network lines before after ending.Probe h = absurd h
strange_with network lines before after ending.Log h = absurd h
strange_with network lines before after ending.Stranger h = inr (refl, (h.0, h.1))
strange_with network lines before after ending.Unquiet h = absurd h
strange_with network lines before after ending.State h = absurd h
strange_with network lines before after ending.Output h = absurd h

-- an ending after which it was said which line of a log names what a plan lacks, with its status
unplanned_with : (plan : Plan) (lines : List LogLine) (before after : Moment) (e : Ending) → IsUnplannedEnd plan lines before after e
    → IsDoneOrMemory (status_of e) ⊎ ((status_of e ≡ 11) × ((n : ℕ) × (first_unplanned plan lines ≡ Some n)))
unplanned_with plan lines before after ending.Done h = absurd h
unplanned_with plan lines before after ending.Words h = absurd h
unplanned_with plan lines before after ending.Layout h = absurd h
unplanned_with plan lines before after ending.Load h = absurd h
unplanned_with plan lines before after ending.Read h = absurd h
unplanned_with plan lines before after ending.Write h = absurd h
unplanned_with plan lines before after ending.Memory h = inl (inr refl)
unplanned_with plan lines before after ending.Probe h = absurd h
unplanned_with plan lines before after ending.Log h = absurd h
unplanned_with plan lines before after ending.Stranger h = inr (refl, (h.0, h.1))
unplanned_with plan lines before after ending.Unquiet h = absurd h
unplanned_with plan lines before after ending.State h = absurd h
unplanned_with plan lines before after ending.Output h = absurd h

module _ (entry exit : Moment) (r : ¬ Rose entry.reads exit.reads) (w : ¬ Rose entry.writes exit.writes) (f : ¬ Rose entry.faults exit.faults) where
  early_done : (Q : Layout → Type 0) (layout : List ℕ) (e : Ending) → IsEarly layout entry exit e → IfPlanned layout entry.held (PlanWith Q) (IsDoneOrMemory (status_of e))
  early_done Q layout e early =
      done_planned Q layout entry.held (PlanWith Q) (status_of e) entry.reads exit.reads (λ files plan so. so) r (early_known Q (WholeDone entry.reads exit.reads) layout entry exit (whole_done entry.reads exit.reads) e early)

  unloaded_done : (Q : Layout → Type 0) (layout : List ℕ) (network : Layout) (e : Ending) → IsJudged layout entry.held (Ok network) → Q network → IsUnloadedSaid network entry exit e → IfPlanned layout entry.held (PlanWith Q) (IsDoneOrMemory (status_of e))
  unloaded_done Q layout network e judged so said =
      done_planned Q layout entry.held (PlanWith Q) (status_of e) entry.reads exit.reads (λ files plan so. so) r
      (unloaded_known Q (WholeDone entry.reads exit.reads) layout entry exit (whole_done entry.reads exit.reads) network e judged so said)

  taken_done : (layout : List ℕ) (outputs : ToWrite) (e : Ending) → IsTaken layout outputs entry exit e → IfPlanned layout entry.held (PlanWith (AreNamesFree layout outputs)) (IsDoneOrMemory (status_of e))
  taken_done layout outputs e taken =
      done_planned (AreNamesFree layout outputs) layout entry.held (PlanWith (AreNamesFree layout outputs)) (status_of e) entry.reads exit.reads (λ files plan so. so) r
      (taken_known (WholeDone entry.reads exit.reads) layout outputs entry exit (whole_done entry.reads exit.reads) taken.network e taken.judged taken.said)

  always_done : (Q : Layout → Type 0) (layout : List ℕ) (n : ℕ) → IsDoneOrMemory n → IfPlanned layout entry.held (PlanWith Q) (IsDoneOrMemory n)
  always_done Q layout n done = always_planned layout entry.held (PlanWith Q) (IsDoneOrMemory n) done

  files_done : (layout prefix : List ℕ) (e : Ending) → IsPlainEnd layout prefix entry exit e → IfPlanned layout entry.held (PlanWith (AreNamesFree layout (RunOf prefix))) (IsDoneOrMemory (status_of e))
  files_done layout prefix e h =
      let Q : Layout → Type 0 = AreNamesFree layout (RunOf prefix) in
      by_way (IfPlanned layout entry.held (PlanWith Q) (IsDoneOrMemory (status_of e))) layout prefix entry exit e (early_done Q layout e) (taken_done layout (RunOf prefix) e)
      (λ unloaded. unloaded_done Q layout unloaded.network e unloaded.judged unloaded.free unloaded.said) (λ unrun. always_done Q layout (status_of e) (inr (unrun_status entry exit e unrun)))
      (λ run. always_done Q layout (status_of e) (filed_whole (run_files prefix run.plan) (IsSummary run.plan) entry exit e run.filed w f)) h

  -- the same with a second way to end
  or_else : (Q : Layout → Type 0) (layout : List ℕ) (Y X : Type 0) → IfPlanned layout entry.held (PlanWith Q) X → IfPlanned layout entry.held (PlanWith Q) (X ⊎ Y)
  or_else Q layout Y X h = if_some entry.held _ _ (λ files known has. inl (known has)) h

  stop_done : (layout prefix : List ℕ) (from : ℕ) (e : Ending) → IsStopEnd layout prefix from entry exit e
      → IfPlanned layout entry.held (PlanWith (AreNamesFree layout (StateOf prefix))) (IsDoneOrMemory (status_of e) ⊎ IsNotThere (Some (Stop layout prefix from)) entry.held (status_of e))
  stop_done layout prefix from e h =
      let Q : Layout → Type 0 = AreNamesFree layout (StateOf prefix) in
      let Y : Type 0 = IsNotThere (Some (Stop layout prefix from)) entry.held (status_of e) in
      let X : Type 0 = IsDoneOrMemory (status_of e) in
      by_stop (IfPlanned layout entry.held (PlanWith Q) (X ⊎ Y)) layout prefix from entry exit e (λ early. or_else Q layout Y X (early_done Q layout e early))
      (λ taken. or_else Q layout Y X (taken_done layout (StateOf prefix) e taken)) (λ unloaded. or_else Q layout Y X (unloaded_done Q layout unloaded.network e unloaded.judged unloaded.free unloaded.said))
      (λ unrun. always_planned layout entry.held (PlanWith Q) (X ⊎ Y) (inl (inr (unrun_status entry exit e unrun))))
      (λ un. always_planned layout entry.held (PlanWith Q) (X ⊎ Y) (inr (unquiet_status entry exit e un.said, (un.plan, un.planned, un.never))))
      (λ ran. always_planned layout entry.held (PlanWith Q) (X ⊎ Y) (inl (filed_whole (state_files prefix ran.plan ran.t) (IsStopLine ran.t) entry exit e ran.filed w f))) h

  probe_done : (told : Report) (layout : List ℕ) (from to : ℕ) (taps : List (List ℕ)) (e : Ending) → IsProbeEnd told layout from to taps entry exit e
      → IfPlanned layout entry.held (PlanWith AnyNetwork) (IsDoneOrMemory (status_of e) ⊎ IsNotThere (Some (Probe told layout from to taps)) entry.held (status_of e))
  probe_done told layout from to taps e h =
      let Y : Type 0 = IsNotThere (Some (Probe told layout from to taps)) entry.held (status_of e) in
      let X : Type 0 = IsDoneOrMemory (status_of e) in
      by_probe (IfPlanned layout entry.held (PlanWith AnyNetwork) (X ⊎ Y)) told layout from to taps entry exit e (λ early. or_else AnyNetwork layout Y X (early_done AnyNetwork layout e early))
      (λ missed. always_planned layout entry.held (PlanWith AnyNetwork) (X ⊎ Y)
      (elim (missed_with told missed.network to taps entry exit e missed.missed) [ inl done ↦ inl done | inr miss ↦ inr (miss.0, (missed.network, missed.judged, miss.1)) ]))
      (λ unprobed. or_else AnyNetwork layout Y X (unloaded_done AnyNetwork layout unprobed.network e unprobed.judged tt unprobed.said))
      (λ probed. always_planned layout entry.held (PlanWith AnyNetwork) (X ⊎ Y) (inl (text_whole probed.text entry exit e probed.written f))) h

  telling_done : (Tells : Layout → List ℕ → Type 0) (layout : List ℕ) (e : Ending) → IsTellingEnd Tells layout entry exit e
      → IfSome entry.held (λ files. IsNetworkWith layout (Some files) (λ network. Unit {0}) → IsDoneOrMemory (status_of e) ⊎ ⊥)
  telling_done Tells layout e h =
      if_some entry.held _ _ (λ files told has. inl (told has.0 has.1 r f))
      (known_telling layout entry.held entry.reads exit.reads entry.faults exit.faults (status_of e) (telling_known Tells layout entry exit e h))

  picture_done : (layout log : List ℕ) (from to : ℕ) (e : Ending) → IsPictureEnd layout log from to entry exit e
      → IfSome entry.held (λ files. AreInputsSound (Some (Picture layout log from to)) files → IsDoneOrMemory (status_of e) ⊎ IsNotThere (Some (Picture layout log from to)) entry.held (status_of e))
  picture_done layout log from to e h =
      let X : Type 0 = IsDoneOrMemory (status_of e) ⊎ IsNotThere (Some (Picture layout log from to)) entry.held (status_of e) in
      by_picture (IfSome entry.held (λ files. AreInputsSound (Some (Picture layout log from to)) files → X)) layout log from to entry exit e
      (λ early. if_some entry.held _ _ (λ files told has. inl (told has.0.0 has.0.1 r f))
      (known_telling layout entry.held entry.reads exit.reads entry.faults exit.faults (status_of e) (early_told layout entry exit e early)))
      (λ unlogged. if_some entry.held _ _ (λ files says has. inl (says has.1.0 has.1.1 r f)) (unmetered_whole log entry exit e unlogged.said))
      (λ drawn strange. some_of entry.held _ (λ files has.
      elim (strange_with drawn.network drawn.lines entry exit e strange) [
        | inl done ↦ inl done
        | inr named ↦ inr (named.0, (drawn.network, drawn.judged, (named.1.0, record { lines = drawn.lines; read = drawn.read; first = named.1.1 })))
      ]))
      (λ drawn pictured. some_of entry.held _ (λ files has. inl (text_whole (picture_of drawn.network drawn.lines from to) entry exit e pictured.text f))) h

  table_done : (layout log : List ℕ) (e : Ending) → IsFramesEnd layout log entry exit e
      → IfSome entry.held (λ files. AreInputsSound (Some (Frames layout log)) files → IsDoneOrMemory (status_of e) ⊎ IsNotThere (Some (Frames layout log)) entry.held (status_of e))
  table_done layout log e h =
      let X : Type 0 = IsDoneOrMemory (status_of e) ⊎ IsNotThere (Some (Frames layout log)) entry.held (status_of e) in
      by_frames (IfSome entry.held (λ files. AreInputsSound (Some (Frames layout log)) files → X)) layout log entry exit e
      (λ early. if_some entry.held _ _ (λ files known has. inl (known has.0)) (early_done AnyNetwork layout e early))
      (λ unqueued. if_some entry.held _ _ (λ files known has. inl (known has.0)) (unloaded_done AnyNetwork layout unqueued.network e unqueued.judged tt unqueued.said))
      (λ untabled. if_some entry.held _ _ (λ files says has. inl (says has.1.0 has.1.1 r f)) (unmetered_whole log entry exit e untabled.said))
      (λ d unplanned. some_of entry.held _ (λ files has.
      elim (unplanned_with d.plan d.lines entry exit e unplanned) [
        | inl done ↦ inl done
        | inr named ↦ inr (named.0, (d.plan, d.planned, (named.1.0, record { lines = d.lines; read = d.read; first = named.1.1 })))
      ]))
      (λ d tabled. some_of entry.held _ (λ files has. inl (text_whole tabled.table entry exit e tabled.text f))) h

  reliable_of : (o : Option Asked) (e : Ending) → IsEndOf o entry exit e
      → IfSome entry.held (λ files. AreInputsSound o files → IsDoneOrMemory (status_of e) ⊎ IsNotThere o entry.held (status_of e))
  reliable_of None e h = some_of entry.held _ (λ files sound. absurd sound)
  reliable_of (Some (Check layout)) e h = telling_done IsVerdictLine layout e h
  reliable_of (Some (Slack layout)) e h = telling_done IsSlackText layout e h
  reliable_of (Some (Plain layout prefix)) e h = or_else (AreNamesFree layout (RunOf prefix)) layout ⊥ (IsDoneOrMemory (status_of e)) (files_done layout prefix e h)
  reliable_of (Some (Run layout prefix workers)) e h = or_else (AreNamesFree layout (RunOf prefix)) layout ⊥ (IsDoneOrMemory (status_of e)) (files_done layout prefix e h)
  reliable_of (Some (Stop layout prefix from)) e h = stop_done layout prefix from e h
  reliable_of (Some (Resume layout prefix)) e h = if_some entry.held _ _ (λ files known has. inl (known has)) (resume_whole layout prefix entry exit e r w f h)
  reliable_of (Some (Demo number workers)) e h =
      some_of entry.held _ (λ files sound. inl (by_demo (IsDoneOrMemory (status_of e)) number entry exit e (λ memory written. inr (ap status_of memory)) (λ text right written. text_whole text entry exit e written f) h))
  reliable_of (Some (Probe told layout from to taps)) e h = probe_done told layout from to taps e h
  reliable_of (Some (Meter log)) e h =
      if_some entry.held _ _ (λ files says has. inl (says has.0 has.1 r f))
      (by_meter (IfSome entry.held (LogSays log entry.reads exit.reads entry.faults exit.faults (status_of e))) log entry exit e (unmetered_whole log entry exit e)
      (λ m. some_of entry.held _ (λ files lines has never unfailed. text_whole m.text entry exit e m.written unfailed)) h)
  reliable_of (Some (Picture layout log from to)) e h = picture_done layout log from to e h
  reliable_of (Some (Frames layout log)) e h = table_done layout log e h
  reliable_of (Some Help) e h = some_of entry.held _ (λ files sound. inl (text_whole HELP.now entry exit e h.0 f))
  reliable_of (Some Version) e h = some_of entry.held _ (λ files sound. inl (text_whole VERSION.now entry exit e h.0 f))

pub answers_are_reliable : AreAnswersReliable
answers_are_reliable words entry exit status answer r w f = rw answer.is (reliable_of entry exit r w f (asked words) answer.by answer.allowed)
