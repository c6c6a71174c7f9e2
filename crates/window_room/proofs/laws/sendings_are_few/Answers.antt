use Rattle.window_room.proofs.SendingGaps.{gaps}
use Rattle.window_room.proofs.SendingBounds.{sendings}
use Rattle.window_room.proofs.laws.sendings_are_few.Goals as goal

pub returns-clause-gaps : goal.returns-clause-gaps
returns-clause-gaps c = gaps

pub returns-clause-any : goal.returns-clause-any
returns-clause-any c = sendings
