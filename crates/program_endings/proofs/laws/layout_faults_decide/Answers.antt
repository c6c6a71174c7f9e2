use Rattle.program_endings.proofs.LayoutDecidesStatus.{layout_faults_are_said, layout_faults_decide}
use Rattle.program_endings.proofs.laws.layout_faults_decide.Goals as goal

pub returns-clause-said : goal.returns-clause-said
returns-clause-said c = layout_faults_are_said

pub returns-clause-only : goal.returns-clause-only
returns-clause-only c = layout_faults_decide
