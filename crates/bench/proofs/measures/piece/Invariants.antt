use Rattle.std.proofs.Common.{◌≡◌, ◌≢◌, All, length}
use Rattle.manchester_line.specs.declared.Sym.TheVariants.{Idle}
use Rattle.bench.proofs.measures.piece.Given as goal

abbrev pub invariant-loop-i : goal.invariant-loop-i
invariant-loop-i l = record {
  count : length l.piece.items ≡ l.i;
  signal : All (λ s. s ≢ Idle) l.piece.items;
}
