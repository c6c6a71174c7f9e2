use Rattle.program_endings.proofs.StopsAreTold.{absent_states_decide, state_faults_are_said, state_faults_decide}
use Rattle.program_endings.proofs.laws.state_faults_decide.Goals as goal

pub returns-clause-said : goal.returns-clause-said
returns-clause-said c = state_faults_are_said

pub returns-clause-only : goal.returns-clause-only
returns-clause-only c = state_faults_decide

pub returns-clause-absent : goal.returns-clause-absent
returns-clause-absent c = absent_states_decide
