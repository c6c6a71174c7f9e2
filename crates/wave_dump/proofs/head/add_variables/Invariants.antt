use Rattle.std.proofs.Common.{◌≡◌, ◌++◌, drop}
use Rattle.wave_dump.specs.Dump.{lines_of_variables}
use Rattle.wave_dump.proofs.head.add_variables.Given as goal

abbrev pub invariant-names : goal.invariant-names
invariant-names l = l.text ++ lines_of_variables l.k (drop l.k l.names) ≡ l.fn.text ++ lines_of_variables 0 l.names
