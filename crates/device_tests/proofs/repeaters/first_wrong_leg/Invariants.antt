use Rattle.std.proofs.Common.{◌≡◌, length}
use Rattle.device_tests.proofs.repeaters.first_wrong_leg.Given as goal

abbrev pub invariant-loop-place : goal.invariant-loop-place
invariant-loop-place l = length l.repeater.guards ≡ 3
