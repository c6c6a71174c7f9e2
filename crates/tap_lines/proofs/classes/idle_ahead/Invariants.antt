use Rattle.std.proofs.Common.{◌≡◌, ℕ, ◌+◌, ◌<◌, ◌≤◌, true, false, slice_index_or}
use Rattle.tap_lines.specs.TapLines.{class_of_line, class_by_lines}
use Rattle.tap_lines.proofs.classes.idle_ahead.Given as goal

-- the taps listed before place i let hear Idle for just so long
abbrev pub invariant-loop-i : goal.invariant-loop-i
invariant-loop-i l = record {
  within : l.idle ≤ l.most;
  so_far : (k j : ℕ) → k < l.i → j < l.idle → class_of_line l.lookahead (l.t + j) l.lines l.p (slice_index_or l.loud.taps k 0) ≡ false;
  longest : l.idle < l.most → class_by_lines l.lookahead (l.t + l.idle) l.lines l.p ≡ true;
}
