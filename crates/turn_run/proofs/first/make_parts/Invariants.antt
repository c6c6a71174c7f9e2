use Rattle.turn_run.specs.PartsInTurn.{AreAtWindow}
use Rattle.turn_run.proofs.first.make_parts.Given as goal

-- the parts so far
abbrev pub invariant-loop-number : goal.invariant-loop-number
invariant-loop-number g l = AreAtWindow g.K.Part.plan g.K.Part.number g.K.Part.at l.plan (g.K.PartKind.first l.plan) l.number 0 l.parts.items
