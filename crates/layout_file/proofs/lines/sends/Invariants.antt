use Rattle.std.proofs.Common.{◌≡◌, map, drop, ◌++◌}
use Rattle.toml.specs.View.{table_view}
use Rattle.layout_file.specs.Lines.{send_of}
use Rattle.layout_file.proofs.lines.sends.Given as goal

abbrev pub invariant-loop-row : goal.invariant-loop-row
invariant-loop-row l =
    map (send_of (map (λ s. s.now) l.stations)) (map (λ t. table_view t.now) l.rows)
    ≡ l.sends ++ map (send_of (map (λ s. s.now) l.stations)) (map (λ t. table_view t.now) (drop l.row-index l.rows))
