use Rattle.exchange_core.proofs.SharesOnBoards.{shares_take}
use Rattle.exchange_core.proofs.laws.shares_take.Goals as goal

pub returns : goal.returns
returns c = shares_take
