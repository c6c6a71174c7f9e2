use Rattle.std.proofs.Common.{◌≡◌, replicate}
use Rattle.path_checker.specs.declared.table.Entry.TheVariants.{Open}
use Rattle.path_checker.proofs.table.open_table.Given as goal

abbrev pub invariant-loop-place : goal.invariant-loop-place
invariant-loop-place l = l.table ≡ replicate l._place Open
