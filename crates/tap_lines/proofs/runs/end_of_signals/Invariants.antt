use Rattle.std.proofs.Common.{◌≡◌, ℕ, ◌-◌, ◌<◌, ◌≤◌, length, slice_index_or}
use Rattle.manchester_line.specs.declared.Sym.TheVariants.{Idle}
use Rattle.tap_lines.proofs.runs.end_of_signals.Given as goal

-- the last ones, as many as are gone, are Idle
abbrev pub invariant-loop-gone : goal.invariant-loop-gone
invariant-loop-gone l = (i : ℕ) → length l.piece - l.gone ≤ i → i < length l.piece → slice_index_or l.piece i Idle ≡ Idle
