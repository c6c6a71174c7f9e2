use Rattle.program_endings.proofs.StopsAreTold.{unquiet_are_said, unquiet_decide}
use Rattle.program_endings.proofs.laws.unquiet_runs_decide.Goals as goal

pub returns-clause-said : goal.returns-clause-said
returns-clause-said c = unquiet_are_said

pub returns-clause-only : goal.returns-clause-only
returns-clause-only c = unquiet_decide
