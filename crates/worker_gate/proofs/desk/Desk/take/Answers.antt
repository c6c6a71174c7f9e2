use Rattle.std.proofs.Common.{sym, ◌∙◌}
use Rattle.worker_gate.proofs.KeptPlans.{taken, true_for_all}
use Rattle.worker_gate.proofs.desk.Desk.take.Goals as goal

pub take-requires-clause-honest : goal.take-requires-clause-honest
take-requires-clause-honest g c κs within = true_for_all g.P.Planned.plan c.args.self.now.share c.args.parcel c.args.self.now.planned (sym c.awaits.ensures ∙ c.if-awaits.true) c.requires

pub invariant_of-self : goal.invariant_of-self
invariant_of-self g c = record { planned = taken g.P.Planned.plan c.args.parcel c.args.self.now.share c.args.self.now.planned c.take.new.self c.take.ensures }
