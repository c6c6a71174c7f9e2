use Rattle.tap_signals.proofs.KindsKnown as proved
use Rattle.tap_signals.proofs.laws.rest_is_idle.Goals as goal

pub returns : goal.returns
returns c = proved.rest_is_idle
