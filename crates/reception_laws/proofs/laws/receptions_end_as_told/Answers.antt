use Rattle.reception_laws.proofs.NetworkReceptions.{receptions_end_as_told}
use Rattle.reception_laws.proofs.laws.receptions_end_as_told.Goals as goal

pub returns : goal.returns
returns c = receptions_end_as_told
