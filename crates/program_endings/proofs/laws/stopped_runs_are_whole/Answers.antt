use Rattle.program_endings.proofs.StoppedRunsAreWhole.{stopped_runs_are_whole}
use Rattle.program_endings.proofs.laws.stopped_runs_are_whole.Goals as goal

pub returns : goal.returns
returns c = stopped_runs_are_whole
