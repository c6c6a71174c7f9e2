use Rattle.std.proofs.Common.{◌≡◌, ℕ, ◌+◌, ◌<◌, ◌≤◌, length, slice_index_or}
use Rattle.tap_lines.specs.TapLines.{half_bits_back, no_line}
use Rattle.segment_engine.specs.declared.apart.Watch.{Watch}
use Rattle.segment_engine.specs.StationsApart.{lowered_watch}
use Rattle.segment_engine.proofs.due.lower_all.Given as goal

-- those below k are lowered
abbrev pub invariant-loop-k : goal.invariant-loop-k
invariant-loop-k l = record {
  len : length l.watches ≡ length l.fn.watches;
  done : (k : ℕ) (d : Watch) → k < l.k → slice_index_or l.watches k d
      ≡ lowered_watch (l.u + half_bits_back l.lookahead (slice_index_or l.lines k no_line).at (slice_index_or l.lines l.p no_line)) (slice_index_or l.fn.watches k d);
  others : (k : ℕ) (d : Watch) → l.k ≤ k → slice_index_or l.watches k d ≡ slice_index_or l.fn.watches k d;
}
