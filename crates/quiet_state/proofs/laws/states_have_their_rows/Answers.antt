use Rattle.quiet_state.proofs.StateRows.{states_have_rows}
use Rattle.quiet_state.proofs.laws.states_have_their_rows.Goals as goal

pub returns : goal.returns
returns c = states_have_rows
