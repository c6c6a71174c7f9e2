use Rattle.std.proofs.Common.{◌≡◌, ◌+◌, ◌<◌, ◌≤◌, ℕ, [], length, slice_index_or}
use Rattle.layout.specs.Paths.{delay_of}
use Rattle.layout.specs.declared.ways.Attachment.{Attachment}
use Rattle.tap_signals.specs.Kinds.{kind_emitted}
use Rattle.tap_signals.specs.Stretches.{AreStretchesTo}
use Rattle.tap_signals.proofs.emitting.tell_all.Given as goal

abbrev pub invariant-loop-k : goal.invariant-loop-k
invariant-loop-k l = record {
  many : length l.lists ≡ length l.taps;
  done : (q : ℕ) (d : Attachment) → q < l.k → AreStretchesTo (kind_emitted l.plan (slice_index_or l.taps q d)) l.window.start l.window.end (l.t + 1 + delay_of l.plan.layout (slice_index_or l.taps q d)) (slice_index_or l.lists q []);
  left : (q : ℕ) (d : Attachment) → l.k ≤ q → q < length l.taps → AreStretchesTo (kind_emitted l.plan (slice_index_or l.taps q d)) l.window.start l.window.end (l.t + delay_of l.plan.layout (slice_index_or l.taps q d)) (slice_index_or l.lists q []);
}
