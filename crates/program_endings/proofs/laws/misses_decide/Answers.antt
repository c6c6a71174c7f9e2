use Rattle.program_endings.proofs.ProbesAreTold.{misses_are_said, misses_decide}
use Rattle.program_endings.proofs.laws.misses_decide.Goals as goal

pub returns-clause-said : goal.returns-clause-said
returns-clause-said c = misses_are_said

pub returns-clause-only : goal.returns-clause-only
returns-clause-only c = misses_decide
