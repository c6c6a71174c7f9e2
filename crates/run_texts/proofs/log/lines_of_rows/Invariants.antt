use Rattle.std.proofs.Common.{◌≡◌, ◌++◌, map, drop}
use Rattle.run_texts.specs.Texts.{lines_of_rows}
use Rattle.run_texts.proofs.log.lines_of_rows.Given as goal

abbrev pub invariant-loop-row : goal.invariant-loop-row
invariant-loop-row l = lines_of_rows (map (λ name. name.now) l.names) l.stations l.rows ≡ l.text ++ lines_of_rows (map (λ name. name.now) l.names) l.stations (drop l.row-index l.rows)
