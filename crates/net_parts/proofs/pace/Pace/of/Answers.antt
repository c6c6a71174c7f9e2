use Rattle.load_plan.proofs.PlansAreSound.{sound_of_plan}
use Rattle.net_parts.proofs.pace.Pace.of.Goals as goal

pub lookahead-lookahead-requires : goal.lookahead-lookahead-requires
lookahead-lookahead-requires c = sound_of_plan c.args.plan.now
