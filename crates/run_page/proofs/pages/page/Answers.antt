use Rattle.load_plan.proofs.PlansAreSound.{sound_of_plan}
use Rattle.run_page.proofs.pages.page.Goals as goal

pub add_data-requires-clause-sound : goal.add_data-requires-clause-sound
add_data-requires-clause-sound c = sound_of_plan c.args.plan.now
