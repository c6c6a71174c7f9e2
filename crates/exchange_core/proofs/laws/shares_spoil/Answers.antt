use Rattle.exchange_core.proofs.SharesOnBoards.{shares_spoil}
use Rattle.exchange_core.proofs.laws.shares_spoil.Goals as goal

pub returns : goal.returns
returns c = shares_spoil
