use Rattle.run_frames.proofs.RunTables as run
use Rattle.run_frames.proofs.laws.frames_end_once.Goals as goal

pub returns : goal.returns
returns c = run.frames_end_once c.args.plan.now
