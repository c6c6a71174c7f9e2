-- How a call of the forms probe LAYOUT FROM TO TAP .., waves LAYOUT FROM TO TAP .. and page LAYOUT FROM TO ends, which
-- are all called probes (profile). A page has no words for taps. Half bits count from 0; a probe goes from one half bit
-- on to before another.
use Rattle.std.specs.Prelude.{◌≡◌, ◌≤◌, ◌⊎◌, ℕ, ◌-◌, List, Option, Ok}
use Rattle.outside.specs.Files.{Files}
use Rattle.layout.specs.declared.lines.Layout.{Layout}
use Rattle.line_probe.specs.declared.tap.Tap.{Tap}
use Rattle.load_plan.specs.declared.plan.Plan.{Plan}
use Rattle.network.specs.Outputs.{half_bits}
use Rattle.run_endings.specs.Moments.{Moment}
use Rattle.program_endings.specs.Probes.{AreTapsOf, HasAim, IsMissLine}
use Rattle.run_page.specs.Pages.{IsPage}
use Rattle.report_texts.specs.HeardTexts.{IsTextOfTaps}
use Rattle.program_words.specs.declared.words.Report.{Report}
use Rattle.program_words.specs.declared.words.Report.TheVariants as report
use Rattle.wave_dump.specs.Heard.{waves_of_plan}
use Rattle.run_endings.specs.declared.endings.Ending.{Ending}
use Rattle.run_endings.specs.declared.endings.Ending.TheVariants as ending
use Rattle.run_endings.specs.Endings.{IsJudged, IsEarly, IsUnloadedSaid, IsText, IsPlanned, Says}

-- what a probe aims at isn't there: that was said, and nothing without memory
abbrev pub IsAimEnd : Report → Layout → ℕ → List (List ℕ) → Moment → Moment → Ending → Type 0
IsAimEnd told network to words before after ending.Probe =
    (line : List ℕ) × IsMissLine told network to words line × Says line before after
IsAimEnd told network to words before after ending.Memory = after.written ≡ before.written
IsAimEnd told network to words before after _ = ⊥

-- the layout has no fault, what a probe aims at isn't in its network, and that was said
pub record IsMissed (told : Report) (layout : List ℕ) (to : ℕ) (words : List (List ℕ)) (before after : Moment)
    (e : Ending) : Type 0 where
  pub network : Layout
  pub judged : IsJudged layout before.held (Ok network)
  pub missed : IsAimEnd told network to words before after e

-- the layout has no fault, what a probe aims at is in its network, and the call ended before the loads were read
pub record IsUnprobed (layout : List ℕ) (to : ℕ) (words : List (List ℕ)) (before after : Moment) (e : Ending)
    : Type 0 where
  pub network : Layout
  pub judged : IsJudged layout before.held (Ok network)
  pub aim : HasAim network to words
  pub said : IsUnloadedSaid network before after e

-- this text is this report of a run from one half bit on and before another: what the taps of these words hear, as runs
-- and bursts, tap by tap, or as the waves of all; or the page of the run
abbrev pub IsReportOf : Report → Plan → ℕ → ℕ → List (List ℕ) → List Tap → List ℕ → Type 0
IsReportOf report.Runs plan from to words taps text = IsTextOfTaps plan from (to - from) words taps text
IsReportOf report.Waves plan from to words taps text = text ≡ waves_of_plan plan words taps from to
IsReportOf report.Page plan from to words taps text = IsPage plan from to text

-- the layout and its loads have no fault, its network has a tap for each of these words, its run has the half bits of
-- the probe, and this text is this report of it
pub record IsProbeText (told : Report) (layout : List ℕ) (held : Option Files) (from to : ℕ) (words : List (List ℕ))
    (text : List ℕ) : Type 0 where
  pub plan : Plan
  pub planned : IsPlanned layout held plan
  pub taps : List Tap
  pub named : AreTapsOf plan.layout words taps
  pub within : to ≤ half_bits plan
  pub lines : IsReportOf told plan from to words taps text

-- the text of a probe was written, or a front of it
pub record IsProbed (told : Report) (layout : List ℕ) (from to : ℕ) (words : List (List ℕ)) (before after : Moment)
    (e : Ending) : Type 0 where
  pub text : List ℕ
  pub right : IsProbeText told layout before.held from to words text
  pub written : IsText text before after e

-- the text of what the taps of these words hear in so many half bits from this one on was written, or a front of it
abbrev pub AreTextsTold : Plan → ℕ → ℕ → List (List ℕ) → List Tap → Moment → Moment → Ending → Type 0
AreTextsTold plan from n words taps before after e =
    (text : List ℕ) × IsTextOfTaps plan from n words taps text × IsText text before after e

-- this report of a plan's run was written, or a front of it, or there was no memory for it
abbrev pub AreTapsTold : Report → Plan → ℕ → ℕ → List (List ℕ) → List Tap → Moment → Moment → Ending → Type 0
AreTapsTold told plan from to words taps before after e =
    ((e ≡ ending.Memory) × (after.written ≡ before.written))
    ⊎ ((text : List ℕ) × IsReportOf told plan from to words taps text × IsText text before after e)

-- the end of the forms probe LAYOUT FROM TO TAP .., waves LAYOUT FROM TO TAP .. and page LAYOUT FROM TO: they write no
-- file
abbrev pub IsProbeEnd : Report → List ℕ → ℕ → ℕ → List (List ℕ) → Moment → Moment → Ending → Type 0
IsProbeEnd told layout from to words before after e =
    (after.held ≡ before.held)
    × (IsEarly layout before after e ⊎ IsMissed told layout to words before after e
    ⊎ IsUnprobed layout to words before after e ⊎ IsProbed told layout from to words before after e)
