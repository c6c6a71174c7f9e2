use Rattle.load_plan.proofs.PlansAreSound.{sound_of_plan}
use Rattle.run_texts.proofs.totals.totals_of_rows.Goals as goal

pub half_bits-half_bits-requires : goal.half_bits-half_bits-requires
half_bits-half_bits-requires c = (sound_of_plan c.args.plan.now).bits_most
