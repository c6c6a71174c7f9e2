-- The ending of an answer, by its status and by its words.
use Rattle.std.proofs.Common.{◌≡◌, ℕ, zero, suc, List, Option, Some, sym, ap, subst, ◌∙◌, inl, inr}
use Rattle.layout.specs.declared.lines.Layout.{Layout}
use Rattle.run_endings.specs.declared.endings.Ending.{Ending}
use Rattle.program_texts.specs.declared.texts.TheConstants.{HELP, VERSION}
use Rattle.program_endings.specs.Answers.{IsAnswer, IsEndOf}
use Rattle.program_endings.specs.Endings.{ArePictured, IsDrawn, IsMeterEnd, IsMetered, IsPictureEnd, HasResumed, IsResumeEnd, IsSlackEnd, IsStopEnd, HasStopped, IsStrangeEnd, IsUnlogged, IsUnmetered, IsUnresumed, IsUnstopped, AreTabled, IsFramesEnd, IsTabled, IsUnqueued, IsUntabled, IsDemoEnd}
use Rattle.run_endings.specs.Endings.{IsCheckEnd, IsEarly, IsLoadEnd, IsPlainEnd, IsTaken, IsTellingEnd, IsTextEnd, IsUnrun, IsText}
use Rattle.program_endings.specs.ProbeEnds.{IsMissed, IsProbed, IsProbeEnd, IsUnprobed}
use Rattle.program_endings.specs.FrameTables.{IsUnplannedEnd}
use Rattle.run_endings.specs.Moments.{Moment}
use Rattle.program_words.specs.Requests.{Asked, asked, Check, Demo, Meter, Picture, Frames, Probe, Resume, Slack, Stop}
use Rattle.program_words.specs.declared.words.Report.{Report}
use Rattle.report_texts.specs.SlackTexts.{IsSlackText}
use Rattle.run_endings.specs.WrittenNames.{RunOf, StateOf}
use Rattle.run_endings.specs.Done.{AskForFiles}
use Rattle.program_endings.specs.Statuses.{IfTelling, IfText}
use Rattle.program_texts.specs.Verdicts.{IsVerdictLine}
use Rattle.run_endings.proofs.WaysOfEnding.{ending_at, at_status}
use Rattle.program_endings.specs.Demos.{IsDemoText}
use Rattle.run_endings.specs.declared.endings.Ending.TheVariants as ending

-- the end of an answer with this status
pub end_at : (words : List (List ℕ)) (entry exit : Moment) (status k : ℕ) → IsAnswer words entry exit status → status ≡ k → IsEndOf (asked words) entry exit (ending_at k)
end_at words entry exit status k answer is =
    subst (λ e. IsEndOf (asked words) entry exit e) (sym (at_status answer.by) ∙ ap ending_at (sym answer.is ∙ is)) answer.allowed

pub check_end : (o : Option Asked) (layout : List ℕ) (entry exit : Moment) (e : Ending) → o ≡ Some (Check layout) → IsEndOf o entry exit e → IsCheckEnd layout entry exit e
check_end o layout entry exit e is end = subst (λ a. IsEndOf a entry exit e) is end

pub slack_end : (o : Option Asked) (layout : List ℕ) (entry exit : Moment) (e : Ending) → o ≡ Some (Slack layout) → IsEndOf o entry exit e → IsSlackEnd layout entry exit e
slack_end o layout entry exit e is end = subst (λ a. IsEndOf a entry exit e) is end

-- the end of a form that writes the files of a run
pub files_end : (o : Option Asked) (layout prefix : List ℕ) (entry exit : Moment) (e : Ending) → AskForFiles o layout prefix → IsEndOf o entry exit e → IsPlainEnd layout prefix entry exit e
files_end o layout prefix entry exit e asks end =
    elim asks [ inl plain ↦ subst (λ a. IsEndOf a entry exit e) plain end | inr run ↦ subst (λ a. IsEndOf a entry exit e) run.1 end ]

pub stop_end : (o : Option Asked) (layout prefix : List ℕ) (from : ℕ) (entry exit : Moment) (e : Ending) → o ≡ Some (Stop layout prefix from) → IsEndOf o entry exit e → IsStopEnd layout prefix from entry exit e
stop_end o layout prefix from entry exit e is end = subst (λ a. IsEndOf a entry exit e) is end

pub resume_end : (o : Option Asked) (layout prefix : List ℕ) (entry exit : Moment) (e : Ending) → o ≡ Some (Resume layout prefix) → IsEndOf o entry exit e → IsResumeEnd layout prefix entry exit e
resume_end o layout prefix entry exit e is end = subst (λ a. IsEndOf a entry exit e) is end

pub demo_end : (o : Option Asked) (number workers : ℕ) (entry exit : Moment) (e : Ending) → o ≡ Some (Demo number workers) → IsEndOf o entry exit e → IsDemoEnd number entry exit e
demo_end o number workers entry exit e is end = subst (λ a. IsEndOf a entry exit e) is end

pub probe_end : (o : Option Asked) (told : Report) (layout : List ℕ) (from to : ℕ) (taps : List (List ℕ)) (entry exit : Moment) (e : Ending) → o ≡ Some (Probe told layout from to taps) → IsEndOf o entry exit e → IsProbeEnd told layout from to taps entry exit e
probe_end o told layout from to taps entry exit e is end = subst (λ a. IsEndOf a entry exit e) is end

pub meter_end : (o : Option Asked) (log : List ℕ) (entry exit : Moment) (e : Ending) → o ≡ Some (Meter log) → IsEndOf o entry exit e → IsMeterEnd log entry exit e
meter_end o log entry exit e is end = subst (λ a. IsEndOf a entry exit e) is end

pub picture_end : (o : Option Asked) (layout log : List ℕ) (from to : ℕ) (entry exit : Moment) (e : Ending) → o ≡ Some (Picture layout log from to) → IsEndOf o entry exit e → IsPictureEnd layout log from to entry exit e
picture_end o layout log from to entry exit e is end = subst (λ a. IsEndOf a entry exit e) is end

pub frames_end : (o : Option Asked) (layout log : List ℕ) (entry exit : Moment) (e : Ending) → o ≡ Some (Frames layout log) → IsEndOf o entry exit e → IsFramesEnd layout log entry exit e
frames_end o layout log entry exit e is end = subst (λ a. IsEndOf a entry exit e) is end

-- what comes of each of the five ways in which frames ends comes of its end
pub by_frames : (X : Type 0) (layout log : List ℕ) (before after : Moment) (e : Ending) → (IsEarly layout before after e → X) → (IsUnqueued layout before after e → X) → (IsUntabled layout log before after e → X)
    → ((d : IsTabled layout log before after e) → IsUnplannedEnd d.plan d.lines before after e → X)
    → ((d : IsTabled layout log before after e) → AreTabled d.plan d.lines before after e → X) → IsFramesEnd layout log before after e → X
by_frames X layout log before after e early unqueued untabled unplanned tabled h =
    elim h.1 [
      | inl one ↦ early one
      | inr later ↦ elim later [
        | inl two ↦ unqueued two
        | inr last ↦ elim last [ inl three ↦ untabled three | inr d ↦ elim d.tabled [ inl four ↦ unplanned d four | inr five ↦ tabled d five ] ]
      ]
    ]

-- what comes of each of the four ways in which picture ends comes of its end
pub by_picture : (X : Type 0) (layout log : List ℕ) (from to : ℕ) (before after : Moment) (e : Ending) → (IsEarly layout before after e → X) → (IsUnlogged layout log before after e → X)
    → ((d : IsDrawn layout log from to before after e) → IsStrangeEnd d.network d.lines before after e → X)
    → ((d : IsDrawn layout log from to before after e) → ArePictured d.network d.lines from to before after e → X) → IsPictureEnd layout log from to before after e → X
by_picture X layout log from to before after e early unlogged strange pictured h =
    elim h.1 [
      | inl one ↦ early one
      | inr later ↦ elim later [ inl two ↦ unlogged two | inr d ↦ elim d.drawn [ inl three ↦ strange d three | inr four ↦ pictured d four ] ]
    ]

-- what comes of each of the four ways in which probe ends comes of its end
pub by_probe : (X : Type 0) (told : Report) (layout : List ℕ) (from to : ℕ) (taps : List (List ℕ)) (before after : Moment) (e : Ending) → (IsEarly layout before after e → X) → (IsMissed told layout to taps before after e → X)
    → (IsUnprobed layout to taps before after e → X) → (IsProbed told layout from to taps before after e → X) → IsProbeEnd told layout from to taps before after e → X
by_probe X told layout from to taps before after e early missed unprobed probed h =
    elim h.1 [
      | inl one ↦ early one
      | inr later ↦ elim later [ inl two ↦ missed two | inr last ↦ elim last [ inl three ↦ unprobed three | inr four ↦ probed four ] ]
    ]

-- what comes of each of the two ways in which meter ends comes of its end
pub by_meter : (X : Type 0) (log : List ℕ) (before after : Moment) (e : Ending) → (IsUnmetered log before after e → X) → (IsMetered log before after e → X) → IsMeterEnd log before after e → X
by_meter X log before after e unmetered metered h = elim h.1 [ inl one ↦ unmetered one | inr two ↦ metered two ]

-- what comes of each of the six ways in which stop ends comes of its end
pub by_stop : (X : Type 0) (layout prefix : List ℕ) (from : ℕ) (before after : Moment) (e : Ending) → (IsEarly layout before after e → X) → (IsTaken layout (StateOf prefix) before after e → X) → (IsLoadEnd layout (StateOf prefix) before after e → X) → (IsUnrun before after e → X)
    → (IsUnstopped layout prefix from before after e → X) → (HasStopped layout prefix from before after e → X) → IsStopEnd layout prefix from before after e → X
by_stop X layout prefix from before after e early taken unloaded unrun unstopped stopped h =
    elim h [
      | inl none ↦ elim none [ inl one ↦ early one.0 | inr later ↦ elim later [ inl two ↦ taken two.0 | inr last ↦ elim last [ inl three ↦ unloaded three.0 | inr four ↦ unrun four ] ] ]
      | inr rest ↦ elim rest [ inl five ↦ unstopped five | inr six ↦ stopped six ]
    ]

-- what comes of each of the six ways in which resume ends comes of its end
pub by_resume : (X : Type 0) (layout prefix : List ℕ) (before after : Moment) (e : Ending) → (IsEarly layout before after e → X) → (IsTaken layout (RunOf prefix) before after e → X) → (IsLoadEnd layout (RunOf prefix) before after e → X) → (IsUnrun before after e → X)
    → (IsUnresumed layout prefix before after e → X) → (HasResumed layout prefix before after e → X) → IsResumeEnd layout prefix before after e → X
by_resume X layout prefix before after e early taken unloaded unrun unresumed resumed h =
    elim h [
      | inl none ↦ elim none [ inl one ↦ early one.0 | inr later ↦ elim later [ inl two ↦ taken two.0 | inr last ↦ elim last [ inl three ↦ unloaded three.0 | inr four ↦ unrun four ] ] ]
      | inr rest ↦ elim rest [ inl five ↦ unresumed five | inr six ↦ resumed six ]
    ]

-- what holds of the end of every form that only tells of a layout
pub of_tellings : (o : Option Asked) (entry exit : Moment) (e : Ending) (P : (Layout → List ℕ → Type 0) → List ℕ → Type 0)
    → ((Tells : Layout → List ℕ → Type 0) (layout : List ℕ) → IsTellingEnd Tells layout entry exit e → P Tells layout) → IsEndOf o entry exit e → IfTelling o P
of_tellings o entry exit e P on end =
    (λ layout is. on IsVerdictLine layout (check_end o layout entry exit e is end), λ layout is. on IsSlackText layout (slack_end o layout entry exit e is end))

-- what holds of the end of every fixed text
pub of_texts : (o : Option Asked) (entry exit : Moment) (e : Ending) (P : List ℕ → Type 0) → ((text : List ℕ) → IsTextEnd text entry exit e → P text) → IsEndOf o entry exit e → IfText o P
of_texts o entry exit e P on end = (λ is. on HELP.now (subst (λ a. IsEndOf a entry exit e) is end), λ is. on VERSION.now (subst (λ a. IsEndOf a entry exit e) is end))

-- what comes of each of the two ways in which demo ends comes of its end
pub by_demo : (X : Type 0) (number : ℕ) (before after : Moment) (e : Ending) → (e ≡ ending.Memory → after.written ≡ before.written → X)
    → ((text : List ℕ) → IsDemoText number text → IsText text before after e → X) → IsDemoEnd number before after e → X
by_demo X number before after e none told h = elim h.0 [ inl unmade ↦ none unmade.0 unmade.1 | inr made ↦ told made.0 made.1 made.2 ]
