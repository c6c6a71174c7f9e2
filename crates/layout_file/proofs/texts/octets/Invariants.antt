use Rattle.std.proofs.Common.{◌≡◌, ◌++◌, ◌*◌, drop}
use Rattle.layout_file.specs.TextValues.{octets_of_digits}
use Rattle.layout_file.proofs.texts.octets.Given as goal

abbrev pub invariant-loop-i : goal.invariant-loop-i
invariant-loop-i l = octets_of_digits l.digits ≡ l.octets ++ octets_of_digits (drop (2 * l.i) l.digits)
