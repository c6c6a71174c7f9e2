-- The laws of pages (profile). Half bits count from 0.
use Rattle.std.specs.Prelude.{◌≡◌, ℕ, true, List}
use Rattle.collision_log.specs.declared.row.Row.{Row}
use Rattle.layout.specs.Sound.{IsSound}
use Rattle.layout.specs.declared.lines.Layout.{Layout}
use Rattle.log_meter.specs.declared.line.LogLine.{LogLine}
use Rattle.load_plan.specs.declared.plan.Plan.{Plan}
use Rattle.run_picture.specs.Markup.{is_plain}
use Rattle.run_picture.specs.Sendings.{does_meet}
use Rattle.tap_signals.specs.declared.stretch.Stretch.{Stretch}
use Rattle.run_page.specs.Pages.{IsPage, data_lines}
use Rattle.run_page.specs.RowLines.{is_shown}

-- Two texts that are the page of one plan and one window are equal.
abbrev pub OnePage : Type 0
OnePage =
    (plan : Plan) (from to : ℕ) (a b : List ℕ) → IsPage plan from to a → IsPage plan from to b → a ≡ b

-- In the data lines of a sound layout, whatever signals and rows they tell, no octet means something in HTML.
abbrev pub NothingIsEscaped : Type 0
NothingIsEscaped =
    (l : Layout) (from to : ℕ) (signals : List (List Stretch)) (told : List Row) → IsSound l
    → is_plain (data_lines l from to signals told) ≡ true

-- A page shows a row exactly where a line of the log that tells the same has a mark in a picture of the same half bits.
abbrev pub RowsAreAsInPictures : Type 0
RowsAreAsInPictures =
    (from to : ℕ) (row : Row) (line : LogLine) → line.t ≡ row.t → line.body ≡ row.body
    → is_shown from to row ≡ does_meet (record { from = from; to = to }) line
