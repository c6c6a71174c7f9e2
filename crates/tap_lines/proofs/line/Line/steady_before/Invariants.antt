use Rattle.std.proofs.Common.{◌≡◌, ℕ, ◌+◌, ◌<◌}
use Rattle.tap_lines.specs.TapLines.{class_back}
use Rattle.tap_lines.proofs.line.Line.steady_before.Given as goal

-- those below j are so
abbrev pub invariant-loop-j : goal.invariant-loop-j
invariant-loop-j l = (i : ℕ) → i < l.j → class_back l.self (l.t + i) l.back ≡ l.carrier
