use Rattle.resumed_runs.proofs.ResumedFrames.{resumed_frames_are_left}
use Rattle.resumed_runs.proofs.laws.resumed_frames_are_left.Goals as goal

pub returns : goal.returns
returns c = resumed_frames_are_left c.args.plan.now c.args.state.now c.requires
