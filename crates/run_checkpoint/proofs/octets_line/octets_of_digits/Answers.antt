use Rattle.std.proofs.Common.{refl, ◌∙◌, arith}
use Rattle.run_checkpoint.proofs.HexRead.{hex_more}
use Rattle.run_checkpoint.proofs.octets_line.octets_of_digits.Goals as goal

pub loop-rest-preserved : goal.loop-rest-preserved
loop-rest-preserved c =
    c.loop-rest.invariant
    ∙ (hex_more c.loop-rest.octets c.loop-rest.rest.now c.in-Some.octet (omega (arith, c.loop-rest-test.true)) c.in-Some.ensures ∙ rw (c.in_ok-push.ensures.ok, c.after_two-rest.ensures) refl)
