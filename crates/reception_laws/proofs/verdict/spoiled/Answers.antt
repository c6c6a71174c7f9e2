use Rattle.std.proofs.Common.{sym, ap}
use Rattle.std.specs.Prelude.{if◌then◌else◌}
use Rattle.std.proofs.lemmas.Bool.{le-ltb, lt-ltb}
use Rattle.collision_log.specs.declared.row.Body.TheVariants.{Dropped}
use Rattle.collision_log.specs.declared.row.Why.TheVariants as why
use Rattle.mac_parameters.specs.Parameters.{shortest_line_text}
use Rattle.reception_laws.proofs.verdict.spoiled.Goals as goal

pub returns-then-halves-lt-SHORTEST_LINE_TEXT : goal.returns-then-halves-lt-SHORTEST_LINE_TEXT
returns-then-halves-lt-SHORTEST_LINE_TEXT c =
    sym (ap (λ t. if t then Dropped why.Fragment c.args.halves else Dropped why.Damaged c.args.halves) (lt-ltb c.args.halves shortest_line_text c.if-halves-lt-SHORTEST_LINE_TEXT.true))

pub returns-else-halves-lt-SHORTEST_LINE_TEXT : goal.returns-else-halves-lt-SHORTEST_LINE_TEXT
returns-else-halves-lt-SHORTEST_LINE_TEXT c =
    sym (ap (λ t. if t then Dropped why.Fragment c.args.halves else Dropped why.Damaged c.args.halves) (le-ltb c.args.halves shortest_line_text c.if-halves-lt-SHORTEST_LINE_TEXT.false))
