use Rattle.reception_laws.proofs.NetworkReceptions.{receptions_are_under_way}
use Rattle.reception_laws.proofs.laws.receptions_are_under_way.Goals as goal

pub returns : goal.returns
returns c = receptions_are_under_way
