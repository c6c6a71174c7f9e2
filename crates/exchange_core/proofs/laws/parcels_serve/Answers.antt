use Rattle.exchange_core.proofs.ShareLaws.{parcels_serve}
use Rattle.exchange_core.proofs.laws.parcels_serve.Goals as goal

pub returns : goal.returns
returns c = parcels_serve
