use Rattle.mac_transmit.proofs.CalmEmissions.{calm_senders_emit}
use Rattle.mac_transmit.proofs.laws.calm_senders_emit.Goals as goal

pub returns : goal.returns
returns c = calm_senders_emit
