use Rattle.std.proofs.Common.{◌≡◌, ℕ, ◌-◌, ◌<◌, ◌≤◌, length, slice_index_or}
use Rattle.manchester_line.specs.declared.Sym.TheVariants.{Idle}
use Rattle.manchester_line.specs.Line.{is_signal}
use Rattle.tap_lines.proofs.runs.steady_first.Given as goal

-- the first ones are so
abbrev pub invariant-loop-steady : goal.invariant-loop-steady
invariant-loop-steady l = record {
  within : l.steady ≤ length l.piece;
  steady : (i : ℕ) → i < l.steady → is_signal (slice_index_or l.piece i Idle) ≡ l.carrier;
}

abbrev pub invariant-loop-steady-2 : goal.invariant-loop-steady-2
invariant-loop-steady-2 l = record {
  within : l.steady ≤ length l.piece;
  steady : (i : ℕ) → i < l.steady → is_signal (slice_index_or l.piece i Idle) ≡ l.carrier;
}

abbrev pub decreases-loop-steady : goal.decreases-loop-steady
decreases-loop-steady l = l.len - l.steady

abbrev pub decreases-loop-steady-2 : goal.decreases-loop-steady-2
decreases-loop-steady-2 l = l.len - l.steady
