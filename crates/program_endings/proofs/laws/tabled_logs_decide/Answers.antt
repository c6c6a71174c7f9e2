use Rattle.program_endings.proofs.FramesAreTold.{tabled_absent_logs_decide, tabled_log_faults_decide}
use Rattle.program_endings.proofs.laws.tabled_logs_decide.Goals as goal

pub returns-clause-fault : goal.returns-clause-fault
returns-clause-fault c = tabled_log_faults_decide

pub returns-clause-absent : goal.returns-clause-absent
returns-clause-absent c = tabled_absent_logs_decide
