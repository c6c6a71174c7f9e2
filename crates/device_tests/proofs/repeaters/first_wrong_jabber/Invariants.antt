use Rattle.std.proofs.Common.{◌≡◌, length}
use Rattle.device_tests.proofs.repeaters.first_wrong_jabber.Given as goal

abbrev pub invariant-loop-t : goal.invariant-loop-t
invariant-loop-t l = length l.repeater.guards ≡ 2
