use Rattle.network.proofs.FramedQueues.{plans_hold_frames}
use Rattle.network.proofs.laws.plans_hold_frames.Goals as goal

pub returns : goal.returns
returns c = plans_hold_frames
