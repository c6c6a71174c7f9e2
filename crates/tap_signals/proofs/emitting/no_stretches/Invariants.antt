use Rattle.std.proofs.Common.{◌≡◌, ℕ, [], length, slice_index_or}
use Rattle.tap_signals.proofs.emitting.no_stretches.Given as goal

abbrev pub invariant-loop-tap : goal.invariant-loop-tap
invariant-loop-tap l = record { many : length l.lists.items ≡ l._tap; none : (k : ℕ) → slice_index_or l.lists.items k [] ≡ [] }
