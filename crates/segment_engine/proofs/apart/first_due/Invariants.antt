use Rattle.std.proofs.Common.{ℕ, ◌<◌, ◌≤◌, length, slice_index_or}
use Rattle.segment_engine.specs.declared.apart.Watch.{Watch}
use Rattle.segment_engine.proofs.apart.first_due.Given as goal

-- none so far is due before it
abbrev pub invariant-loop-watch : goal.invariant-loop-watch
invariant-loop-watch l = record {
  within : l.due ≤ l.end;
  first : (i : ℕ) (w : Watch) → i < l.watch-index → l.due ≤ (slice_index_or l.watches i w).until;
  due : (u : ℕ) → u ≤ l.end → ((i : ℕ) (w : Watch) → i < length l.watches → u ≤ (slice_index_or l.watches i w).until) → u ≤ l.due;
}
