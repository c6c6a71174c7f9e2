use Rattle.std.proofs.Common.{◌≡◌, ℕ, ◌<◌, true, false, slice_index_or}
use Rattle.manchester_line.specs.declared.Sym.TheVariants.{Idle}
use Rattle.tap_lines.proofs.line.is_idle.Given as goal

-- whether those before are Idle
abbrev pub invariant-loop-symbol : goal.invariant-loop-symbol
invariant-loop-symbol l = record {
  idle : l.all ≡ true → (i : ℕ) → i < l.symbol-index → slice_index_or l.piece i Idle ≡ Idle;
  other : l.all ≡ false → ¬ ((i : ℕ) → i < l.symbol-index → slice_index_or l.piece i Idle ≡ Idle);
}
