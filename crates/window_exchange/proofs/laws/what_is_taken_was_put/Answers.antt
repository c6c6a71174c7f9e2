use Rattle.window_exchange.proofs.StepsKeepBalance.{fair}
use Rattle.window_exchange.proofs.laws.what_is_taken_was_put.Goals as goal

pub returns : goal.returns
returns g c = fair g.P.Planned.plan
