use Rattle.run_frames.proofs.RunTables as run
use Rattle.run_frames.proofs.laws.sent_frames_are_counted.Goals as goal

pub returns : goal.returns
returns c = run.sent_frames_are_counted c.args.plan.now
