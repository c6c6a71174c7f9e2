use Rattle.std.proofs.Common.{◌≡◌, ◌≢◌, ℕ, ◌<◌, true, false, slice_index_or}
use Rattle.manchester_line.specs.declared.Sym.TheVariants.{Clash}
use Rattle.reception_laws.proofs.teller.is_spoiled.Given as goal

-- whether a Clash is among those before
abbrev pub invariant-loop-symbol : goal.invariant-loop-symbol
invariant-loop-symbol l = record {
  spoiled : l.any ≡ true → (i : ℕ) × (i < l.symbol-index) × (slice_index_or l.text i Clash ≡ Clash);
  clean : l.any ≡ false → (i : ℕ) → i < l.symbol-index → slice_index_or l.text i Clash ≢ Clash;
}
