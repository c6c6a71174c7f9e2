use Rattle.std.proofs.Common.{◌≡◌, map, drop, ◌++◌}
use Rattle.toml.specs.View.{table_view}
use Rattle.layout_file.specs.Lines.{segment_of}
use Rattle.layout_file.proofs.lines.segments.Given as goal

abbrev pub invariant-loop-row : goal.invariant-loop-row
invariant-loop-row l = map segment_of (map (λ t. table_view t.now) l.rows) ≡ l.segments ++ map segment_of (map (λ t. table_view t.now) (drop l.row-index l.rows))
