use Rattle.std.proofs.Common.{◌≡◌, not, string_bytes}
use Rattle.std.specs.List.{list_any}
use Rattle.layout_file.specs.Tree.{is_listed}
use Rattle.layout_file.proofs.TablesOfArrays.{has_stranger_in}
use Rattle.layout_file.proofs.tree.has_stranger.Given as goal

abbrev pub invariant-loop-key : goal.invariant-loop-key
invariant-loop-key l =
    (goal.iterator-loop-key).can_next l.key-iterator ×
    (goal.iterator-loop-key).is_finite l.key-iterator ×
    (has_stranger_in l.rules l.table.entries ≡ list_any (λ k. not (is_listed l.rules (string_bytes k))) l.key-iterator)
