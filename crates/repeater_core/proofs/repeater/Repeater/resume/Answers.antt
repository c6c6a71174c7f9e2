use Rattle.std.proofs.Common.{rules}
use Rattle.repeater_core.proofs.Lawful.{resumed_state}
use Rattle.repeater_core.proofs.repeater.Repeater.resume.Goals as goal

pub invariant_of-result : goal.invariant_of-result
invariant_of-result c =
    resumed_state _ _ _ c.args.rests.now c.args.delay (search rules) (search rules) (search rules) c.requires.some_delay c.requires.delay_at_most (search rules) (search rules)
