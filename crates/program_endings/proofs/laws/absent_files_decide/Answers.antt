use Rattle.program_endings.proofs.LoadsDecideStatus.{read_faults_are_said, absent_loads_decide}
use Rattle.program_endings.proofs.LayoutDecidesStatus.{absent_layouts_decide}
use Rattle.program_endings.proofs.laws.absent_files_decide.Goals as goal

pub returns-clause-said : goal.returns-clause-said
returns-clause-said c = read_faults_are_said

pub returns-clause-layout : goal.returns-clause-layout
returns-clause-layout c = absent_layouts_decide

pub returns-clause-load : goal.returns-clause-load
returns-clause-load c = absent_loads_decide
