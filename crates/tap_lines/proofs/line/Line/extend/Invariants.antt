use Rattle.std.proofs.Common.{◌≡◌, take}
use Rattle.tap_lines.specs.TapLines.{line_extended}
use Rattle.tap_lines.proofs.line.Line.extend.Given as goal

-- the symbols so far stand on it
abbrev pub invariant-loop-symbol : goal.invariant-loop-symbol
invariant-loop-symbol l = l.self ≡ line_extended l.fn.self (take l.symbol-index l.piece)
