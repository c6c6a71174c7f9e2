use Rattle.std.proofs.Common.{◌≡◌, ℕ, ◌<◌, true, false, slice_index_or}
use Rattle.manchester_line.specs.declared.Sym.TheVariants.{Idle}
use Rattle.manchester_line.specs.Line.{is_signal}
use Rattle.tap_lines.proofs.line.are_signals.Given as goal

-- whether those before are signals
abbrev pub invariant-loop-symbol : goal.invariant-loop-symbol
invariant-loop-symbol l = record {
  signals : l.all ≡ true → (i : ℕ) → i < l.symbol-index → is_signal (slice_index_or l.piece i Idle) ≡ true;
  other : l.all ≡ false → ¬ ((i : ℕ) → i < l.symbol-index → is_signal (slice_index_or l.piece i Idle) ≡ true);
}
