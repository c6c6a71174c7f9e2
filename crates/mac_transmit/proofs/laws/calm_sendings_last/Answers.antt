use Rattle.mac_transmit.proofs.CalmEmissions.{calm_sendings_last}
use Rattle.mac_transmit.proofs.laws.calm_sendings_last.Goals as goal

pub returns : goal.returns
returns c = calm_sendings_last
