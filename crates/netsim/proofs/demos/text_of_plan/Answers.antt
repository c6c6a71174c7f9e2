use Rattle.netsim.proofs.DemoTexts.{demo-text}
use Rattle.netsim.proofs.demos.text_of_plan.Goals as goal

pub returns : goal.returns
returns g c =
    demo-text c.args.number c.args.plan.now c.in_ok-text.text c.in_ok-summary.summary _ _ c.requires.made c.in_ok-text.ensures c.in_ok-summary.ensures c.as_slice.ensures c.in_ok-extend.ensures.ok
