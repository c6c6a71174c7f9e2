use Rattle.std.proofs.Common.{sym, ◌∙◌}
use Rattle.frame_table.proofs.ReachSteps.{sent_reach}
use Rattle.frame_table.proofs.reach.reach_of.Goals as goal

pub returns : goal.returns
returns c =
    λ l lines paths known.
    sent_reach c.args.half_bits l paths lines c.args.octets c.args.a _ c.args.end c.in-Some.end c.in_ok-reach_among.field-0 c.in-Some.is (sym c.was_sent.ensures ∙ c.if-not-was_sent.false) known.count (c.in_ok-reach_among.ensures l lines paths known)
