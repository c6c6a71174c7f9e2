use Rattle.program_endings.proofs.PicturesAreTold.{pictured_absent_logs_decide, pictured_log_faults_decide}
use Rattle.program_endings.proofs.laws.pictured_logs_decide.Goals as goal

pub returns-clause-fault : goal.returns-clause-fault
returns-clause-fault c = pictured_log_faults_decide

pub returns-clause-absent : goal.returns-clause-absent
returns-clause-absent c = pictured_absent_logs_decide
