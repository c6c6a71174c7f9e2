use Rattle.std.proofs.Common.{◌≡◌, map, drop, ◌++◌}
use Rattle.toml.specs.View.{table_view}
use Rattle.layout_file.specs.Lines.{repeater_of}
use Rattle.layout_file.proofs.lines.repeaters.Given as goal

abbrev pub invariant-loop-row : goal.invariant-loop-row
invariant-loop-row l =
    map (repeater_of (map (λ s. s.now) l.segments)) (map (λ t. table_view t.now) l.rows)
    ≡ l.repeaters ++ map (repeater_of (map (λ s. s.now) l.segments)) (map (λ t. table_view t.now) (drop l.row-index l.rows))
