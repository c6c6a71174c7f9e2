use Rattle.worker_gate.proofs.KeptPlans.{brought}
use Rattle.worker_gate.proofs.desk.Desk.carry.Goals as goal

pub invariant_of-self : goal.invariant_of-self
invariant_of-self g c = record { planned = brought g.P.Planned.plan c.args.edge c.args.self.now.share c.args.self.now.planned c.carry.new.self c.carry.ensures }
