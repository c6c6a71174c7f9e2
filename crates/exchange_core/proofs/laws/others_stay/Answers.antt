use Rattle.exchange_core.proofs.SharesOnBoards.{others_stay}
use Rattle.exchange_core.proofs.laws.others_stay.Goals as goal

pub returns : goal.returns
returns c = others_stay
