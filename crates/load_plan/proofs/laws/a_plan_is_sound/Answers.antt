use Rattle.load_plan.proofs.PlansAreSound.{sound_of_plan}
use Rattle.load_plan.proofs.laws.a_plan_is_sound.Goals as goal

pub returns : goal.returns
returns c = sound_of_plan
