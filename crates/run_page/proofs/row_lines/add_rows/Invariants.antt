use Rattle.std.proofs.Common.{◌≡◌, ◌++◌, drop}
use Rattle.run_page.specs.RowLines.{shown_rows}
use Rattle.run_page.proofs.row_lines.add_rows.Given as goal

abbrev pub invariant-loop-row : goal.invariant-loop-row
invariant-loop-row l = l.text ++ shown_rows l.layout l.from l.to (drop l.row-index l.rows) ≡ l.fn.text ++ shown_rows l.layout l.from l.to l.rows
