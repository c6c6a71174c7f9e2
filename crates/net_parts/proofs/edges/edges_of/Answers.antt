use Rattle.load_plan.proofs.PlansAreSound.{sound_of_plan}
use Rattle.net_parts.proofs.edges.edges_of.Goals as goal

pub edges_on_segment-requires : goal.edges_on_segment-requires
edges_on_segment-requires c = sound_of_plan c.args.plan.now

pub edges_at_repeater-requires-clause-sound : goal.edges_at_repeater-requires-clause-sound
edges_at_repeater-requires-clause-sound c = sound_of_plan c.args.plan.now
