use Rattle.program_endings.proofs.FramesAreTold.{unplanned_decide}
use Rattle.program_endings.proofs.PicturesAreTold.{strangers_are_said, strangers_decide}
use Rattle.program_endings.proofs.laws.strangers_decide.Goals as goal

pub returns-clause-said : goal.returns-clause-said
returns-clause-said c = strangers_are_said

pub returns-clause-only : goal.returns-clause-only
returns-clause-only c = strangers_decide

pub returns-clause-unplanned : goal.returns-clause-unplanned
returns-clause-unplanned c = unplanned_decide
