use Rattle.reception_laws.proofs.NetworkReceptions.{receivers_follow}
use Rattle.reception_laws.proofs.laws.receivers_follow.Goals as goal

pub returns : goal.returns
returns c = receivers_follow
