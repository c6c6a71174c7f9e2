use Rattle.exchange_core.proofs.ShareLaws.{reserved_has_room}
use Rattle.part_tests.proofs.shares.make_window.Goals as goal

pub run-requires-clause-room : goal.run-requires-clause-room
run-requires-clause-room c κs = reserved_has_room c.args.part c.args.share.now c.reserve.new.self c.in_ok-reserve.ensures.ok
