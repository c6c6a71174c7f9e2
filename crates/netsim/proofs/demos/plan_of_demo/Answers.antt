use Rattle.netsim.proofs.DemoTexts.{demo-plan}
use Rattle.netsim.proofs.demos.plan_of_demo.Goals as goal

pub returns-clause-made : goal.returns-clause-made
returns-clause-made c =
    demo-plan c.args.number _ c.in_ok-network.network c.in_ok-loads.loads c.in_ok-make_plan.field-0 c.in_ok-network.ensures.layout c.len.ensures c.in_ok-loads.ensures.loads
    c.in_ok-make_plan.ensures.layout c.in_ok-make_plan.ensures.queues c.in_ok-make_plan.ensures.skips
