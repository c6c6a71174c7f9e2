use Rattle.std.proofs.Common.{◌≡◌, ◌++◌, drop, flat_map}
use Rattle.run_checkpoint.specs.LineTexts.{hex_digits}
use Rattle.run_checkpoint.proofs.octets_line.add_digits.Given as goal

abbrev pub invariant-loop-octet : goal.invariant-loop-octet
invariant-loop-octet l = l.text ++ flat_map hex_digits (drop l.octet-index l.octets) ≡ l.fn.text ++ flat_map hex_digits l.octets
