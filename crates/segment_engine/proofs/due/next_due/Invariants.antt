use Rattle.std.proofs.Common.{ℕ, ◌≤◌, ◌<◌, slice_index_or}
use Rattle.segment_engine.specs.declared.apart.Watch.{Watch}
use Rattle.segment_engine.proofs.due.next_due.Given as goal

-- none of the stations passed is due
abbrev pub invariant-loop-k : goal.invariant-loop-k
invariant-loop-k l = record { later : (i : ℕ) (w : Watch) → l.from ≤ i → i < l.k → l.u < (slice_index_or l.watches i w).until }
