use Rattle.worker_gate.proofs.KeptPlans.{posted, true_if_boxed}
use Rattle.worker_gate.proofs.desk.Desk.post.Goals as goal

pub invariant_of-self : goal.invariant_of-self
invariant_of-self g c = record { planned = posted g.P.Planned.plan c.args.edge c.args.self.now.share c.args.self.now.planned c.post.new.self c.post.ensures.new }

pub returns-then-refilled-clause-honest : goal.returns-then-refilled-clause-honest
returns-then-refilled-clause-honest g c = true_if_boxed g.P.Planned.plan c.args.self.now.share c.post.result c.args.self.now.planned c.post.ensures.honest
