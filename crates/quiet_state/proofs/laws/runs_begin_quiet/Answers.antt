use Rattle.quiet_state.proofs.QuietNets.{begins_quiet}
use Rattle.quiet_state.proofs.laws.runs_begin_quiet.Goals as goal

pub returns : goal.returns
returns c = begins_quiet
