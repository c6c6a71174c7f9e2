use Rattle.std.proofs.Common.{◌≡◌, drop}
use Rattle.toml.specs.View.{table_view}
use Rattle.layout_file.specs.Arounds.{around}
use Rattle.layout_file.specs.RowFaults.{failing_key}
use Rattle.layout_file.proofs.rows.failing_key.Given as goal

abbrev pub invariant-loop-rule : goal.invariant-loop-rule
invariant-loop-rule l = failing_key (around l.surroundings) l.test l.rules (table_view l.members) ≡ failing_key (around l.surroundings) l.test (drop l.rule-index l.rules) (table_view l.members)
