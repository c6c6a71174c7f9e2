use Rattle.std.proofs.Common.{arith, sym, ◌∙◌}
use Rattle.line_probe.proofs.BurstsSoFar.{judged_whole}
use Rattle.line_probe.proofs.judging.judged.Goals as goal

pub returns : goal.returns
returns c halves decodes =
    judged_whole c.args.start c.from-halves.result c.heard-heard.result.octets c.heard-heard.result.spare halves
    (omega (arith, c.from-halves.ensures, c.heard-heard.ensures.halves halves decodes))
    (omega (arith, c.from-halves.ensures, c.if-heard-eq0.false))
    (sym (c.heard-heard.ensures.spoiled halves decodes) ∙ c.if-heard.false)
    (λ bits e. c.heard-heard.ensures.octets halves bits decodes e)
    (λ bits e. c.heard-heard.ensures.spare halves bits decodes e)
