use Rattle.std.proofs.Common.{◌+◌, length}
use Rattle.worker_gate.specs.PlannedShares.{HasNoneFrom}
use Rattle.worker_gate.proofs.crew.deal_repeaters.Given as goal

-- none from the next one on is there yet
abbrev pub invariant-loop-i : goal.invariant-loop-i
invariant-loop-i g l = HasNoneFrom (length l.plan.layout.segments + l.i) l.desk.share
