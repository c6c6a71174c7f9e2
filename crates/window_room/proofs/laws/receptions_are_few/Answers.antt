use Rattle.window_room.proofs.ReceptionBounds as bounds
use Rattle.window_room.proofs.laws.receptions_are_few.Goals as goal

pub returns-clause-count : goal.returns-clause-count
returns-clause-count c = bounds.count

pub returns-clause-exact : goal.returns-clause-exact
returns-clause-exact c = bounds.exact
