use Rattle.program_endings.proofs.OutputsAreTold.{output_faults_are_said, output_faults_decide}
use Rattle.program_endings.proofs.laws.output_faults_decide.Goals as goal

pub returns-clause-said : goal.returns-clause-said
returns-clause-said c = output_faults_are_said

pub returns-clause-only : goal.returns-clause-only
returns-clause-only c = output_faults_decide
