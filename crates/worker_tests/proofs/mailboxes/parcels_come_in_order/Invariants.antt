use Rattle.std.specs.Prelude.{Some}
use Rattle.worker_tests.proofs.mailboxes.parcels_come_in_order.Given as goal

abbrev pub ghosts-two_parcels : goal.ghosts-two_parcels
ghosts-two_parcels g a = record { plan = Some a.plan.now }
