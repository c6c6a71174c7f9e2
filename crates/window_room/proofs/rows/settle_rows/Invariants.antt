use Rattle.std.proofs.Common.{◌≡◌, ◌≤◌, ◌++◌, length, drop}
use Rattle.window_room.proofs.rows.settle_rows.Given as goal

-- the rows below place i are settled
abbrev pub invariant-loop-i : goal.invariant-loop-i
invariant-loop-i l = record {
  at : l.done ≡ l.i;
  within : l.i ≤ length l.rows;
  same : l.settled ++ drop l.i l.rows ≡ l.fn.settled ++ drop l.fn.done l.rows;
}
