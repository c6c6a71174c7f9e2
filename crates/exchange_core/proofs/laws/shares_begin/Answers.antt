use Rattle.exchange_core.proofs.SharesOnBoards.{shares_begin}
use Rattle.exchange_core.proofs.laws.shares_begin.Goals as goal

pub returns : goal.returns
returns c = shares_begin
