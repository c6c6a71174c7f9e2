use Rattle.window_exchange.proofs.StepsKeepBalance.{forks}
use Rattle.window_exchange.proofs.mailbox.Mailbox.split.Goals as goal

pub another-requires-clause-rule : goal.another-requires-clause-rule
another-requires-clause-rule g c = forks g.P.Planned.plan _ _
