use Rattle.tap_signals.proofs.StretchesApart as proved
use Rattle.tap_signals.proofs.laws.stretches_are_apart.Goals as goal

pub returns : goal.returns
returns c = proved.stretches_are_apart
