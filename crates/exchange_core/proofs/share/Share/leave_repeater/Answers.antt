use Rattle.std.proofs.Common.{false, ap, ◌∙◌}
use Rattle.std.specs.Prelude.{if◌then◌else◌}
use Rattle.exchange_core.specs.Shares.{Held, first_with_edge, may_post, carry_held}
use Rattle.exchange_core.proofs.TakenParcels.{edge_kept}
use Rattle.exchange_core.proofs.CarriedParcels.{brought, fits, goes_at}
use Rattle.exchange_core.proofs.share.Share.leave_repeater.Goals as goal

pub bring-requires-after_bounds : goal.bring-requires-after_bounds
bring-requires-after_bounds g c κs within = fits _ _ _ _ _ _ _ (edge_kept c.self.invariant c.spot-segment.ensures.part c.spot-repeater.ensures.part) false

pub invariant_of-self : goal.invariant_of-self
invariant_of-self g c = (brought _ _ _ _ _ _ _ (edge_kept c.self.invariant c.spot-segment.ensures.part c.spot-repeater.ensures.part) false c.bring.new.self c.bring.new.to c.bring.ensures.left c.bring.ensures.come).whole

pub returns-clause-when : goal.returns-clause-when
returns-clause-when g c =
    c.bring.ensures.value ∙ goes_at _ _ _ _ _ _ _ (edge_kept c.self.invariant c.spot-segment.ensures.part c.spot-repeater.ensures.part) false ∙ ap (λ (v : Held). may_post c.args.edge (first_with_edge c.args.edge v.repeaters.places)) c.self.view_is

pub returns-clause-new : goal.returns-clause-new
returns-clause-new g c =
    (brought _ _ _ _ _ _ _ (edge_kept c.self.invariant c.spot-segment.ensures.part c.spot-repeater.ensures.part) false c.bring.new.self c.bring.new.to c.bring.ensures.left c.bring.ensures.come).new
    ∙ ap (λ (v : Held). if may_post c.args.edge (first_with_edge c.args.edge v.repeaters.places) then carry_held c.args.edge v else v) c.self.view_is
