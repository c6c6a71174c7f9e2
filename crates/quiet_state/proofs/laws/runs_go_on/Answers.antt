use Rattle.quiet_state.proofs.QuietNets.{runs_go_on}
use Rattle.quiet_state.proofs.laws.runs_go_on.Goals as goal

pub returns : goal.returns
returns c = runs_go_on
