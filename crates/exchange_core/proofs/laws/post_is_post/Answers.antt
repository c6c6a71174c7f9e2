use Rattle.exchange_core.proofs.BoardTies.{post_is_post}
use Rattle.exchange_core.proofs.laws.post_is_post.Goals as goal

pub returns : goal.returns
returns c = post_is_post
