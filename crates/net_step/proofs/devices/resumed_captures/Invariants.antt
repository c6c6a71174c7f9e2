use Rattle.std.proofs.Common.{◌≡◌, ◌++◌, length, reverse}
use Rattle.net_step.proofs.devices.resumed_captures.Given as goal

abbrev pub invariant-loop-taken : goal.invariant-loop-taken
invariant-loop-taken l = l.rest ++ reverse l.all.items ≡ l.initial.rest

abbrev pub decreases-loop-taken : goal.decreases-loop-taken
decreases-loop-taken l = length l.rest
