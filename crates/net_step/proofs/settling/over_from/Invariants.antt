use Rattle.std.proofs.Common.{◌≡◌, drop, max}
use Rattle.net_step.specs.KeptNet.{over_from}
use Rattle.net_step.proofs.settling.over_from.Given as goal

-- the symbols below k and those from k on
abbrev pub invariant-loop-k : goal.invariant-loop-k
invariant-loop-k l = max l.from (over_from l.t (drop l.k l.needs) (drop l.k l.row)) ≡ over_from l.t l.needs l.row
