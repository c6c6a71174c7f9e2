use Rattle.repeater_core.proofs.DelayLineCalm.{front_near, front_far}
use Rattle.repeater_core.proofs.line.ring_front.Goals as goal

pub returns-then-front-slots : goal.returns-then-front-slots
returns-then-front-slots c = front_near c.args.head _ c.args.slots.now c.idle_front-front.ensures.count c.if-front-slots.true

pub returns-else-front-slots : goal.returns-else-front-slots
returns-else-front-slots c =
    front_far c.args.head _ _ c.args.slots.now c.idle_front-front.ensures.count c.if-front-slots.false c.idle_front.ensures.count
