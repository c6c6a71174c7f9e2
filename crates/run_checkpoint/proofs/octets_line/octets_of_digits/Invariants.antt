use Rattle.std.proofs.Common.{◌≡◌, [], length}
use Rattle.run_checkpoint.specs.LineForms.{hex_octets_on}
use Rattle.run_checkpoint.proofs.octets_line.octets_of_digits.Given as goal

abbrev pub invariant-loop-rest : goal.invariant-loop-rest
invariant-loop-rest l = hex_octets_on [] l.digits ≡ hex_octets_on l.octets l.rest

abbrev pub decreases-loop-rest : goal.decreases-loop-rest
decreases-loop-rest l = length l.rest
