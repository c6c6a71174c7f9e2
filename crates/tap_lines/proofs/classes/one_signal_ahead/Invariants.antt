use Rattle.std.proofs.Common.{◌≡◌, ℕ, ◌+◌, ◌<◌, ◌≤◌, true, false, slice_index_or}
use Rattle.tap_lines.specs.TapLines.{class_of_line, class_by_lines}
use Rattle.tap_lines.proofs.classes.one_signal_ahead.Given as goal

-- one of the taps listed before place i lets hear a signal for so long
abbrev pub invariant-loop-i : goal.invariant-loop-i
invariant-loop-i l = record {
  within : l.longest ≤ l.most;
  signals : (j : ℕ) → j < l.longest → class_by_lines l.lookahead (l.t + j) l.lines l.p ≡ true;
  none : l.longest ≡ 0 → 0 < l.most → (k : ℕ) → k < l.i → class_of_line l.lookahead l.t l.lines l.p (slice_index_or l.loud.taps k 0) ≡ false;
}
