use Rattle.std.proofs.Common.{◌≡◌, drop}
use Rattle.text_fields.specs.Reading.{digits_on}
use Rattle.text_fields.proofs.fields.number.Given as goal

abbrev pub invariant-digits : goal.invariant-digits
invariant-digits l = digits_on 0 0 l.octets ≡ digits_on l.value l.i (drop l.i l.octets)
