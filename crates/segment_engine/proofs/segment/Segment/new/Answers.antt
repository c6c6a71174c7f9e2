use Rattle.network.proofs.RunnablePlans.{runnable_plan}
use Rattle.segment_engine.proofs.segment.Segment.new.Goals as goal

pub half_bits-requires : goal.half_bits-requires
half_bits-requires c = (runnable_plan c.args.plan.now).short
