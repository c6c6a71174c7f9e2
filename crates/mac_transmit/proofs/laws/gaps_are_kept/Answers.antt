use Rattle.mac_transmit.proofs.StartGaps.{gaps}
use Rattle.mac_transmit.proofs.laws.gaps_are_kept.Goals as goal

pub returns : goal.returns
returns c = gaps
