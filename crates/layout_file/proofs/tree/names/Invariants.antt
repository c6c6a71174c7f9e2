use Rattle.std.proofs.Common.{◌≡◌, map, drop, ◌++◌}
use Rattle.toml.specs.View.{table_view}
use Rattle.layout_file.specs.Tree.{names_of}
use Rattle.layout_file.proofs.tree.names.Given as goal

abbrev pub invariant-loop-row : goal.invariant-loop-row
invariant-loop-row l =
    names_of (map (λ t. table_view t.now) l.rows)
    ≡ map (λ s. s.now) l.names.items ++ names_of (map (λ t. table_view t.now) (drop l.row-index l.rows))
