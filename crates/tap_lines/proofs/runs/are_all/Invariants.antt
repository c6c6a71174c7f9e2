use Rattle.std.proofs.Common.{◌≡◌, ℕ, ◌<◌, true, false, slice_index_or}
use Rattle.manchester_line.specs.declared.Sym.TheVariants.{Idle}
use Rattle.manchester_line.specs.Line.{is_signal}
use Rattle.tap_lines.proofs.runs.are_all.Given as goal

-- whether those before are so
abbrev pub invariant-loop-symbol : goal.invariant-loop-symbol
invariant-loop-symbol l = record {
  steady : l.all ≡ true → (i : ℕ) → i < l.symbol-index → is_signal (slice_index_or l.piece i Idle) ≡ l.carrier;
  other : l.all ≡ false → ¬ ((i : ℕ) → i < l.symbol-index → is_signal (slice_index_or l.piece i Idle) ≡ l.carrier);
}
