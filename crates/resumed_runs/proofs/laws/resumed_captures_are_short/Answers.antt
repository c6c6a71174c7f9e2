use Rattle.resumed_runs.proofs.ResumedCaptures.{resumed_captures_are_short}
use Rattle.resumed_runs.proofs.laws.resumed_captures_are_short.Goals as goal

pub returns : goal.returns
returns c = resumed_captures_are_short c.args.plan.now c.args.state.now c.requires
