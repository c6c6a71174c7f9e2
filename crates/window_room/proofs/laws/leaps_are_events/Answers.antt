use Rattle.window_room.proofs.ReceptionBounds as bounds
use Rattle.window_room.proofs.laws.leaps_are_events.Goals as goal

pub returns : goal.returns
returns c = bounds.leaps
