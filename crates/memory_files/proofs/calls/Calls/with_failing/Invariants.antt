use Rattle.std.proofs.Common.{◌≡◌, take}
use Rattle.memory_files.proofs.calls.Calls.with_failing.Given as goal

abbrev pub invariant-loop-number : goal.invariant-loop-number
invariant-loop-number l = l.failing ≡ take l.number-index l.numbers
