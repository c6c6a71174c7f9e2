use Rattle.run_frames.proofs.RunTables as run
use Rattle.run_frames.proofs.laws.run_logs_are_planned.Goals as goal

pub returns : goal.returns
returns c = run.run_logs_are_planned c.args.plan.now
