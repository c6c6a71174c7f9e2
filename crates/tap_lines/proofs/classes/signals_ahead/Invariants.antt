use Rattle.std.proofs.Common.{◌≡◌, ℕ, ◌+◌, ◌-◌, ◌<◌, ◌≤◌, true}
use Rattle.tap_lines.specs.TapLines.{class_by_lines}
use Rattle.tap_lines.proofs.classes.signals_ahead.Given as goal

-- the tap hears a signal for so long
abbrev pub invariant-loop-steady : goal.invariant-loop-steady
invariant-loop-steady l = record {
  within : l.steady ≤ l.most;
  signals : (j : ℕ) → j < l.steady → class_by_lines l.lookahead (l.t + j) l.lines l.p ≡ true;
}

abbrev pub decreases-loop-steady : goal.decreases-loop-steady
decreases-loop-steady l = l.most - l.steady
