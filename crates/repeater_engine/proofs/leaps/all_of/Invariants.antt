use Rattle.std.proofs.Common.{◌≡◌, ℕ, ◌<◌, true, slice_index_or}
use Rattle.manchester_line.specs.declared.Sym.TheVariants.{Idle}
use Rattle.repeater_core.specs.Classes.{class_of}
use Rattle.repeater_engine.proofs.leaps.all_of.Given as goal

-- the symbols so far are of the class, if so said
abbrev pub invariant-loop-symbol : goal.invariant-loop-symbol
invariant-loop-symbol l = l.all ≡ true → (i : ℕ) → i < l.symbol-index → class_of (slice_index_or l.symbols i Idle) ≡ class_of l.one
