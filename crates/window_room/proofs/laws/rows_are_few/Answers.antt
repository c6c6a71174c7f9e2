use Rattle.window_room.proofs.ReceptionBounds as bounds
use Rattle.window_room.proofs.laws.rows_are_few.Goals as goal

pub returns : goal.returns
returns c = bounds.rows
