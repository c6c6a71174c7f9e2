use Rattle.exchange_core.proofs.BoardTies.{spoil_is_spoil}
use Rattle.exchange_core.proofs.laws.spoil_is_spoil.Goals as goal

pub returns : goal.returns
returns c = spoil_is_spoil
