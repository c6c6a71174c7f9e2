use Rattle.std.proofs.Common.{◌≡◌, ◌++◌, map, option_map}
use Rattle.toml.specs.View.{table_view}
use Rattle.layout_file.proofs.TablesOfArrays.{tables_from}
use Rattle.layout_file.proofs.tree.tables_of.Given as goal

abbrev pub invariant-loop-item : goal.invariant-loop-item
invariant-loop-item l = tables_from l.items 0 ≡ option_map (λ rest. map (λ t. table_view t.now) l.rows.items ++ rest) (tables_from l.items l.item-index)
