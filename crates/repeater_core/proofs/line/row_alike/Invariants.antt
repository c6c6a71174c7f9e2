use Rattle.std.proofs.Common.{◌≡◌, map, take, drop}
use Rattle.manchester_line.specs.Line.{is_signal}
use Rattle.repeater_core.proofs.line.row_alike.Given as goal

-- the symbols below k are alike
abbrev pub invariant-loop-k : goal.invariant-loop-k
invariant-loop-k l = map is_signal (take l.k (drop l.head l.slots)) ≡ map is_signal (take l.k l.front)
