use Rattle.std.proofs.lemmas.Slice.{overwrites}
use Rattle.std.proofs.Common.{rules}
use Rattle.line_probe.proofs.run_lines.put.Goals as goal

pub returns-clause-rest : goal.returns-clause-rest
returns-clause-rest c k past = search (rules, overwrites)
