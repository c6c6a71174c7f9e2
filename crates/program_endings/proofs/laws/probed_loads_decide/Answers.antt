use Rattle.program_endings.proofs.ProbesAreTold.{probed_absent_loads_decide, probed_load_faults_decide}
use Rattle.program_endings.proofs.laws.probed_loads_decide.Goals as goal

pub returns-clause-fault : goal.returns-clause-fault
returns-clause-fault c = probed_load_faults_decide

pub returns-clause-absent : goal.returns-clause-absent
returns-clause-absent c = probed_absent_loads_decide
