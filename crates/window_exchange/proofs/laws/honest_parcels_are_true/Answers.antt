use Rattle.window_exchange.proofs.MailNamesTell.{true_parcels}
use Rattle.window_exchange.proofs.laws.honest_parcels_are_true.Goals as goal

pub returns : goal.returns
returns g c = true_parcels g.P.Planned.plan
