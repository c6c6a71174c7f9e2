use Rattle.std.proofs.Common.{◌≡◌, ◌+◌, ◌<◌, ℕ, [], get_or, length}
use Rattle.frame_table.specs.Histories.{history}
use Rattle.frame_table.specs.declared.history.History.{History}
use Rattle.frame_table.proofs.history.untold.Given as goal

abbrev pub invariant-loop-k : goal.invariant-loop-k
invariant-loop-k l = record {
  count : length l.histories.items ≡ l._k;
  each : (k : ℕ) (d : History) → k < l._k → get_or l.histories.items k d ≡ history (k + 1) [];
}
