use Rattle.std.proofs.Common.{◌≡◌, length, take, drop}
use Rattle.repeater_core.proofs.line.copy_row.Given as goal

-- the symbols below k are copied
abbrev pub invariant-loop-k : goal.invariant-loop-k
invariant-loop-k l = record {
  len : length l.row ≡ length l.fn.row;
  out : take l.k l.row ≡ take l.k (drop l.head l.slots);
}
