use Rattle.std.proofs.Common.{rules}
use Rattle.repeater_core.proofs.RowsPut.{new_ring}
use Rattle.repeater_core.proofs.line.DelayLine.new.Goals as goal

pub invariant_of-result : goal.invariant_of-result
invariant_of-result c = new_ring c.args.ports c.args.delay c.in_ok-slots.slots.items c.requires.some c.requires.few (search rules)
