use Rattle.exchange_core.proofs.SharesOnBoards.{shares_run}
use Rattle.exchange_core.proofs.laws.shares_run.Goals as goal

pub returns : goal.returns
returns c = shares_run
