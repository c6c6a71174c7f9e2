use Rattle.std.proofs.Common.{◌≡◌, ◌-◌, ◌*◌, ◌++◌, take}
use Rattle.manchester_line.specs.Line.{bit_halves}
use Rattle.segment_engine.proofs.sendings.write_octet.Given as goal

abbrev pub invariant-loop-j : goal.invariant-loop-j
invariant-loop-j l = take (2 * l.j) l.piece ++ bit_halves (8 - l.j) l.rest ≡ bit_halves 8 l.octet
