-- The page of a run (profile): its data lines, between what stands before and after the data lines of each page. Half
-- bits count from 0.
use Rattle.std.specs.Prelude.{◌≡◌, ℕ, List, ◌++◌}
use Rattle.collision_log.specs.declared.row.Row.{Row}
use Rattle.layout.specs.declared.lines.Layout.{Layout}
use Rattle.load_plan.specs.declared.plan.Plan.{Plan}
use Rattle.network.specs.Outputs.{rows}
use Rattle.tap_signals.specs.Signals.{AreSignals}
use Rattle.tap_signals.specs.declared.stretch.Stretch.{Stretch}
use Rattle.run_page.specs.LayoutLines.{layout_lines, run_line, window_line}
use Rattle.run_page.specs.RowLines.{shown_rows}
use Rattle.run_page.specs.SignalLines.{signal_lines}
use Rattle.run_page.specs.declared.head.TheConstants.{HEAD}
use Rattle.run_page.specs.declared.tail.TheConstants.{TAIL}

-- What stands before the data lines of each page.
unfoldable pub page_head : List ℕ
page_head = HEAD.now

-- What stands after the data lines of each page.
unfoldable pub page_tail : List ℕ
page_tail = TAIL.now

-- The data lines of the page of the half bits from `from` to below `to` of a layout's run, by the stretches of what
-- each tap emits and by the rows of the whole run.
unfoldable pub data_lines : Layout → ℕ → ℕ → List (List Stretch) → List Row → List ℕ
data_lines l from to signals told =
    window_line from to ++ run_line l ++ layout_lines l ++ signal_lines l signals ++ shown_rows l from to told

-- The text of that page.
unfoldable pub page_text : Layout → ℕ → ℕ → List (List Stretch) → List Row → List ℕ
page_text l from to signals told = page_head ++ data_lines l from to signals told ++ page_tail

-- The text is the page of the half bits from `from` to below `to` of a plan's run: it tells what the taps of the
-- network emit, and the rows of the run.
pub record IsPage (plan : Plan) (from to : ℕ) (text : List ℕ) : Type 0 where
  pub signals : List (List Stretch)
  pub are : AreSignals plan from to signals
  pub told : text ≡ page_text plan.layout from to signals (rows plan)
