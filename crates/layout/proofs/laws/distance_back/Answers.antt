use Rattle.layout.proofs.WalksBack.{distance_back}
use Rattle.layout.proofs.laws.distance_back.Goals as goal

pub returns : goal.returns
returns c = distance_back
