use Rattle.window_room.proofs.ReceptionBounds as bounds
use Rattle.window_room.proofs.laws.octets_are_few.Goals as goal

pub returns-clause-all : goal.returns-clause-all
returns-clause-all c = bounds.octets

pub returns-clause-each : goal.returns-clause-each
returns-clause-each c = bounds.each
