use Rattle.tap_signals.proofs.StretchesDetermined as proved
use Rattle.tap_signals.proofs.laws.stretches_are_determined.Goals as goal

pub returns : goal.returns
returns c = proved.stretches_are_determined
