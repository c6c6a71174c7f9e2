use Rattle.std.proofs.Common.{◌+◌, slice_index_or}
use Rattle.manchester_line.specs.declared.Sym.TheVariants.{Idle}
use Rattle.tap_lines.proofs.Mixes.{AreMixed}
use Rattle.tap_lines.proofs.line.mix_from.Given as goal

-- the symbols below j are mixed, and the others are not
abbrev pub invariant-loop-j : goal.invariant-loop-j
invariant-loop-j l = AreMixed (λ i. slice_index_or l.symbols (l.first + i) Idle) l.fn.piece l.piece l.j
