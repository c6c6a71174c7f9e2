use Rattle.std.proofs.Common.{◌≡◌, ◌-◌, ◌+◌, suc, ◌∙◌, arith, rules}
use Rattle.manchester_line.specs.Line.{octet_halves}
use Rattle.segment_engine.proofs.SendingTexts.{halves_step, halves_all}
use Rattle.segment_engine.proofs.sendings.write_octet.Goals as goal

pub loop-j-preserved : goal.loop-j-preserved
loop-j-preserved c =
    let e : 8 - c.loop-j.j ≡ suc (8 - (c.loop-j.j + 1)) = omega arith in
    halves_step c.loop-j.piece c.loop-j.j c.loop-j.rest (8 - (c.loop-j.j + 1)) c.half_of.result c.half_of-in-loop-j.result (omega arith) e (search rules) (search rules) ∙ c.loop-j.invariant

pub returns : goal.returns
unfolding octet_halves
returns c = halves_all c.loop-j.piece c.loop-j.j c.loop-j.rest 8 c.args.octet (omega arith) (omega arith) c.loop-j.invariant
