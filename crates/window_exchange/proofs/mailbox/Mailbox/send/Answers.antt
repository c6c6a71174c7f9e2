use Rattle.std.proofs.Common.{sym, subst}
use Rattle.window_exchange.proofs.StepsKeepBalance.{sends}
use Rattle.window_exchange.specs.MailNames.{IsHonest}
use Rattle.window_exchange.proofs.mailbox.Mailbox.send.Goals as goal

pub try_push_as-requires-clause-rule : goal.try_push_as-requires-clause-rule
try_push_as-requires-clause-rule g c = sends g.P.Planned.plan _ _ _ _ (subst (IsHonest g.P.Planned.plan) (sym c.loop.invariant.2) c.requires.honest)
