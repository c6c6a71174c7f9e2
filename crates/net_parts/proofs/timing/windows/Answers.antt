use Rattle.load_plan.proofs.PlansAreSound.{sound_of_plan}
use Rattle.net_parts.proofs.timing.windows.Goals as goal

pub lookahead-requires : goal.lookahead-requires
lookahead-requires c = sound_of_plan c.args.plan.now
