use Rattle.std.proofs.Common.{◌+◌}
use Rattle.worker_gate.specs.PlannedShares.{HasNoneFrom}
use Rattle.worker_gate.proofs.crew.deal_segments.Given as goal

-- none from the next one on is there yet
abbrev pub invariant-loop-i : goal.invariant-loop-i
invariant-loop-i g l = HasNoneFrom (0 + l.i) l.segments.share
