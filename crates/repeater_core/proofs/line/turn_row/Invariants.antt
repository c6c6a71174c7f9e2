use Rattle.std.proofs.Common.{◌≡◌, ◌+◌, ◌++◌, take, drop}
use Rattle.repeater_core.proofs.line.turn_row.Given as goal

-- the symbols below k are exchanged, and the rest are not
abbrev pub invariant-loop-k : goal.invariant-loop-k
invariant-loop-k l = record {
  before : take (l.head + l.k) l.slots ≡ take l.head l.fn.slots ++ take l.k l.decided;
  behind : drop (l.head + l.k) l.slots ≡ drop (l.head + l.k) l.fn.slots;
  out : take l.k l.emits ≡ take l.k (drop l.head l.fn.slots);
}
