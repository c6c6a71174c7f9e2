use Rattle.std.proofs.Common.{◌≡◌, ◌+◌, length, option_map}
use Rattle.layout_file.proofs.TablesOfArrays.{tables_from}
use Rattle.layout_file.proofs.tree.count_tables.Given as goal

abbrev pub invariant-loop-item : goal.invariant-loop-item
invariant-loop-item l = option_map length (tables_from l.items 0) ≡ option_map (λ n. l.item-index + n) (option_map length (tables_from l.items l.item-index))
