use Rattle.std.proofs.Common.{◌+◌}
use Rattle.network.specs.Times.{earlier}
use Rattle.tap_lines.specs.TapLines.{symbol_on}
use Rattle.tap_lines.proofs.Mixes.{AreMixed}
use Rattle.tap_lines.proofs.line.Line.mix_back.Given as goal

-- the symbols below j are mixed, and the others are not
abbrev pub invariant-loop-j : goal.invariant-loop-j
invariant-loop-j l = AreMixed (λ i. earlier (symbol_on l.self) (l.t + i) l.back) l.fn.piece l.piece l.j
