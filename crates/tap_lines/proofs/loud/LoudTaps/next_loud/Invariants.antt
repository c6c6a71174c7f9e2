use Rattle.std.proofs.Common.{ℕ, ◌<◌, ◌≤◌, get_or}
use Rattle.tap_lines.specs.TapLines.{no_line, IsIdleFrom}
use Rattle.tap_lines.proofs.loud.LoudTaps.next_loud.Given as goal

-- the taps before place i are idle
abbrev pub invariant-loop-i : goal.invariant-loop-i
invariant-loop-i l = record {
  idle : (k : ℕ) → l.from ≤ k → k < l.i → IsIdleFrom l.u (get_or l.lines (get_or l.self.taps k 0) no_line);
}
