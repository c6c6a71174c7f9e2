use Rattle.mac_transmit.proofs.StartGaps.{deaf_gaps}
use Rattle.mac_transmit.proofs.laws.deaf_gaps_are_kept.Goals as goal

pub returns : goal.returns
returns c = deaf_gaps
