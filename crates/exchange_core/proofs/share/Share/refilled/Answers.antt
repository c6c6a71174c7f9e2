use Rattle.std.proofs.Common.{refl, ap, sym, ◌∙◌}
use Rattle.exchange_core.specs.Shares.{is_refilled}
use Rattle.exchange_core.proofs.TakenParcels.{edge_kept, refilled_segment, refilled_repeater}
use Rattle.exchange_core.proofs.share.Share.refilled.Goals as goal

pub returns-then-may_post : goal.returns-then-may_post
returns-then-may_post g c =
    sym c.if-may_post.true
    ∙ refilled_segment _ _ _ _ _ _ _ (edge_kept c.self.invariant c.spot-segment.ensures.part refl) c.may_post.result c.may_post.ensures c.if-may_post.true ∙ ap (is_refilled c.args.edge) c.self.view_is

pub returns : goal.returns
returns g c =
    refilled_repeater _ _ _ _ _ _ _ (edge_kept c.self.invariant c.spot-segment.ensures.part c.spot-repeater.ensures.part) c.may_post.result c.may_post-2.result c.may_post.ensures c.if-may_post.false c.may_post-2.ensures ∙ ap (is_refilled c.args.edge) c.self.view_is
