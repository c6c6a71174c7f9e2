use Rattle.quiet_state.proofs.StatesStay.{states_are_kept}
use Rattle.quiet_state.proofs.laws.states_are_kept.Goals as goal

pub returns : goal.returns
returns c = states_are_kept
