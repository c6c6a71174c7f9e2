use Rattle.exchange_core.proofs.SharesOnBoards.{shares_post}
use Rattle.exchange_core.proofs.laws.shares_post.Goals as goal

pub returns : goal.returns
returns c = shares_post
