use Rattle.program_endings.proofs.MetersAreTold.{absent_logs_decide, log_faults_are_said, log_faults_decide}
use Rattle.program_endings.proofs.laws.log_faults_decide.Goals as goal

pub returns-clause-said : goal.returns-clause-said
returns-clause-said c = log_faults_are_said

pub returns-clause-only : goal.returns-clause-only
returns-clause-only c = log_faults_decide

pub returns-clause-absent : goal.returns-clause-absent
returns-clause-absent c = absent_logs_decide
