use Rattle.quiet_state.proofs.ResumableStates.{states_resumable}
use Rattle.quiet_state.proofs.laws.quiet_states_are_resumable.Goals as goal

pub returns : goal.returns
returns c = states_resumable
