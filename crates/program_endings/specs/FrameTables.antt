-- What the octets of a log are to the form frames (profile). Lines count from 1.
use Rattle.std.specs.Prelude.{◌≡◌, ℕ, List, Option, None, Some}
use Rattle.frame_table.specs.Unplanned.{first_unplanned}
use Rattle.load_plan.specs.declared.plan.Plan.{Plan}
use Rattle.log_meter.specs.declared.line.LogLine.{LogLine}
use Rattle.outside.specs.Files.{Files}
use Rattle.program_endings.specs.Meters.{HasLog}
use Rattle.run_endings.specs.Moments.{Moment}
use Rattle.run_endings.specs.Writing.{IsSaid}
use Rattle.run_endings.specs.declared.endings.Ending.{Ending}
use Rattle.run_endings.specs.declared.endings.Ending.TheVariants as ending
use Rattle.program_texts.specs.Texts.{line_of_unplanned}

-- the log has no fault, and of its lines the one with this number is the first that names what a plan lacks
pub record HasUnplanned (plan : Plan) (log : List ℕ) (held : Option Files) (n : ℕ) : Type 0 where
  pub lines : List LogLine
  pub read : HasLog log held lines
  pub first : first_unplanned plan lines ≡ Some n

-- the log has no fault, and none of its lines names what a plan lacks
pub record IsPlannedLog (plan : Plan) (log : List ℕ) (held : Option Files) : Type 0 where
  pub lines : List LogLine
  pub read : HasLog log held lines
  pub known : first_unplanned plan lines ≡ None

-- what is said of the first of these lines that names what a plan lacks: its line, and nothing without memory
abbrev pub IsUnplannedEnd : Plan → List LogLine → Moment → Moment → Ending → Type 0
IsUnplannedEnd plan lines before after ending.Stranger =
    (n : ℕ) × (first_unplanned plan lines ≡ Some n)
    × IsSaid (line_of_unplanned n) before.written after.written before.refused after.refused
IsUnplannedEnd plan lines before after ending.Memory = after.written ≡ before.written
IsUnplannedEnd plan lines before after _ = ⊥
