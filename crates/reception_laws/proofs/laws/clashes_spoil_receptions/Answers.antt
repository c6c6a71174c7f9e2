use Rattle.reception_laws.proofs.NetworkReceptions.{clashes_spoil_receptions}
use Rattle.reception_laws.proofs.laws.clashes_spoil_receptions.Goals as goal

pub returns : goal.returns
returns c = clashes_spoil_receptions
