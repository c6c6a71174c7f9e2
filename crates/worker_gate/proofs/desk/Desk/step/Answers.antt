use Rattle.worker_gate.proofs.desk.Desk.step.Goals as goal

pub invariant_of-self : goal.invariant_of-self
invariant_of-self g c = record { planned = c.step.ensures.planned g.P.Planned.plan c.args.self.now.planned }
