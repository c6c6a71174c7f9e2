use Rattle.exchange_core.proofs.BoardTies.{take_is_take}
use Rattle.exchange_core.proofs.laws.take_is_take.Goals as goal

pub returns : goal.returns
returns c = take_is_take
