use Rattle.quiet_state.proofs.QuietNets.{resumed_rows, resumed_captures}
use Rattle.quiet_state.proofs.laws.resumed_runs_are_whole.Goals as goal

pub returns-clause-rows : goal.returns-clause-rows
returns-clause-rows c = resumed_rows

pub returns-clause-captures : goal.returns-clause-captures
returns-clause-captures c = resumed_captures
