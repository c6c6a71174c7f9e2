use Rattle.std.specs.Prelude.{Some}
use Rattle.exchange_core.proofs.ShareLaws.{reserved_has_room}
use Rattle.worker_gate.proofs.KeptPlans.{made_stays}
use Rattle.part_tests.proofs.orders.make.Goals as goal

pub run-requires-clause-room : goal.run-requires-clause-room
run-requires-clause-room g c κs within = reserved_has_room c.args.part c.args.share.now c.reserve.new.self c.in_ok-reserve.ensures.ok

pub returns : goal.returns
returns g c = made_stays c.args.part c.args.share.now c.reserve.new.self c.run.new.self c.in_ok-reserve.ensures.ok c.run.ensures (Some c.args.plan.now) c.requires
