use Rattle.std.proofs.Common.{◌≡◌, ℕ, ◌<◌, slice_index_or}
use Rattle.manchester_line.specs.declared.Sym.TheVariants.{Idle}
use Rattle.repeater_core.specs.Classes.{class_of}
use Rattle.repeater_engine.proofs.leaps.alike_in.Given as goal

-- the symbols below j are of the class
abbrev pub invariant-loop-j : goal.invariant-loop-j
invariant-loop-j l = record {
  named : l.class ≡ class_of l.fn.first;
  alike : (i : ℕ) → i < l.j → class_of (slice_index_or l.symbols i Idle) ≡ class_of l.fn.first;
}
