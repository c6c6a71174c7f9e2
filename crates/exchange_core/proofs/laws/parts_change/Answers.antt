use Rattle.exchange_core.proofs.ShareLaws.{parts_change}
use Rattle.exchange_core.proofs.laws.parts_change.Goals as goal

pub returns : goal.returns
returns c = parts_change
