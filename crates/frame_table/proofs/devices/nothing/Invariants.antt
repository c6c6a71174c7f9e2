use Rattle.std.proofs.Common.{◌≡◌, ℕ, [], get_or, length}
use Rattle.frame_table.proofs.devices.nothing.Given as goal

abbrev pub invariant-loop-k : goal.invariant-loop-k
invariant-loop-k l = record {
  count : length l.events.items ≡ l._k;
  empty : (k : ℕ) → get_or l.events.items k [] ≡ [];
}
