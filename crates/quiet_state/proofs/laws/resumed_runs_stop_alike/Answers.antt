use Rattle.quiet_state.proofs.ResumedNets.{resumed_states, resumed_quiet}
use Rattle.quiet_state.proofs.laws.resumed_runs_stop_alike.Goals as goal

pub returns-clause-states : goal.returns-clause-states
returns-clause-states c = resumed_states

pub returns-clause-quiet : goal.returns-clause-quiet
returns-clause-quiet c = resumed_quiet
