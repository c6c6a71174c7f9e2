use Rattle.exchange_core.proofs.SharesOnBoards.{shares_reserve}
use Rattle.exchange_core.proofs.laws.shares_reserve.Goals as goal

pub returns : goal.returns
returns c = shares_reserve
