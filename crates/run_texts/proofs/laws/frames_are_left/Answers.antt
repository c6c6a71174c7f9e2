use Rattle.run_texts.proofs.FramesLeft.{frames_are_left}
use Rattle.run_texts.proofs.laws.frames_are_left.Goals as goal

pub returns : goal.returns
returns c = frames_are_left c.args.plan.now
