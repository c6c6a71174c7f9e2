use Rattle.std.proofs.Common.{◌≡◌, length}
use Rattle.worker_gate.proofs.crew.make_kits.Given as goal

-- a kit for each worker so far
abbrev pub invariant-loop-number : goal.invariant-loop-number
invariant-loop-number g l = length l.kits.items ≡ l.number
