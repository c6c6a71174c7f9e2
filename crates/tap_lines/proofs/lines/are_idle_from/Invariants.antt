use Rattle.std.proofs.Common.{◌≡◌, ℕ, ◌<◌, ◌≤◌, false, slice_index_or}
use Rattle.tap_lines.specs.TapLines.{no_line, class_on}
use Rattle.tap_lines.proofs.lines.are_idle_from.Given as goal

-- those so far are Idle
abbrev pub invariant-loop-line : goal.invariant-loop-line
invariant-loop-line l = (q v : ℕ) → q < l.line-index → l.u ≤ v → class_on (slice_index_or l.lines q no_line) v ≡ false
