use Rattle.std.proofs.Common.{◌≡◌, ◌<◌, ℕ, [], get_or, length}
use Rattle.frame_table.specs.Receptions.{AreReceptions}
use Rattle.frame_table.specs.Told.{receptions_at}
use Rattle.frame_table.proofs.told.all_receptions.Given as goal

abbrev pub invariant-loop-k : goal.invariant-loop-k
invariant-loop-k l = record {
  count : length l.receptions.items ≡ l.k;
  each : (k : ℕ) → k < l.k → AreReceptions (get_or l.events k []) (receptions_at l.receptions.items k);
}
