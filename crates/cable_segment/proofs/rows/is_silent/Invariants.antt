use Rattle.std.proofs.Common.{◌≡◌, ℕ, ◌+◌, ◌*◌, ◌<◌, get_or}
use Rattle.manchester_line.specs.declared.Sym.TheVariants.{Idle}
use Rattle.cable_segment.proofs.rows.is_silent.Given as goal

abbrev pub invariant-loop-row : goal.invariant-loop-row
invariant-loop-row l = (k : ℕ) → k < l.row → get_or l.rows (k * l.taps + l.tap) Idle ≡ Idle
