use Rattle.reception_laws.proofs.NetworkReceptions.{receivers_await_first, receivers_await_next, awaiting_receivers_write_nothing}
use Rattle.reception_laws.proofs.laws.receivers_await.Goals as goal

pub returns-clause-first : goal.returns-clause-first
returns-clause-first c = receivers_await_first

pub returns-clause-next : goal.returns-clause-next
returns-clause-next c = receivers_await_next

pub returns-clause-lasting : goal.returns-clause-lasting
returns-clause-lasting c = awaiting_receivers_write_nothing
