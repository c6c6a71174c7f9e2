use Rattle.std.proofs.Common.{◌≡◌, ℕ, ◌+◌, ◌<◌, true, length, slice_index_or}
use Rattle.manchester_line.specs.declared.Sym.{Sym}
use Rattle.manchester_line.specs.declared.Sym.TheVariants.{Idle}
use Rattle.tap_lines.proofs.HeardLists.{CompletedFrom}
use Rattle.tap_lines.proofs.listed.hear_listed.Given as goal

-- what is heard of the taps listed from place i on completes what all let hear; at first that is all
abbrev pub invariant-loop-i : goal.invariant-loop-i
invariant-loop-i l = record {
  len : length l.piece ≡ length l.fn.piece;
  fresh : l.fresh ≡ true → (j : ℕ) (d : Sym) → j < length l.fn.piece → slice_index_or l.piece j d ≡ Idle;
  heard : (j : ℕ) → j < length l.fn.piece →
      CompletedFrom l.lookahead (l.t + j) l.lines l.p l.loud.taps l.i (slice_index_or l.piece j Idle);
}
