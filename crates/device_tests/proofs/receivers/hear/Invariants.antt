use Rattle.std.proofs.Common.{◌≡◌, ◌+◌}
use Rattle.device_tests.proofs.receivers.hear.Given as goal

abbrev pub invariant-loop-i : goal.invariant-loop-i
invariant-loop-i l = l.receiver.steps ≡ l.fn.receiver.steps + l.i
