use Rattle.reception_laws.proofs.NetworkReceptions.{senders_turn_deaf, deaf_receivers_write_nothing}
use Rattle.reception_laws.proofs.laws.senders_are_deaf.Goals as goal

pub returns-clause-first : goal.returns-clause-first
returns-clause-first c = senders_turn_deaf

pub returns-clause-lasting : goal.returns-clause-lasting
returns-clause-lasting c = deaf_receivers_write_nothing
