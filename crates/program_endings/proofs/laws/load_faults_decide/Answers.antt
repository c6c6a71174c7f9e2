use Rattle.program_endings.proofs.LoadsDecideStatus.{load_faults_are_said, load_faults_decide}
use Rattle.program_endings.proofs.laws.load_faults_decide.Goals as goal

pub returns-clause-said : goal.returns-clause-said
returns-clause-said c = load_faults_are_said

pub returns-clause-only : goal.returns-clause-only
returns-clause-only c = load_faults_decide
