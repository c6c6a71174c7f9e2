use Rattle.repeater_core.proofs.SteadinessLasts.{lasts}
use Rattle.repeater_core.proofs.laws.steadiness_lasts.Goals as goal

pub returns : goal.returns
returns c = lasts
