use Rattle.run_checkpoint.proofs.ResumableTexts.{quiet_states, resumable}
use Rattle.run_checkpoint.proofs.laws.states_of_plans.Goals as goal

pub returns-clause-quiet : goal.returns-clause-quiet
returns-clause-quiet c = quiet_states

pub returns-clause-resumable : goal.returns-clause-resumable
returns-clause-resumable c = resumable
