use Rattle.window_exchange.proofs.StepsKeepBalance.{gets}
use Rattle.window_exchange.proofs.mailbox.Mailbox.try_receive.Goals as goal

pub try_pop_as-requires-clause-rule : goal.try_pop_as-requires-clause-rule
try_pop_as-requires-clause-rule g c = gets g.P.Planned.plan _ _
