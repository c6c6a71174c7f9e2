use Rattle.std.proofs.Common.{◌≡◌, true, false, ap, sym, subst, ◌∙◌}
use Rattle.load_plan.specs.declared.plan.Plan.{Plan}
use Rattle.net_parts.specs.Parcels.{IsTrueParcel}
use Rattle.exchange_core.specs.Shares.{Held, has_place_for, take_held, IsOfPlan}
use Rattle.exchange_core.proofs.TakenParcels.{edge_kept, MayTake, if_honest, taken_on, whole_taken, new_taken}
use Rattle.exchange_core.proofs.share.Share.take.Given.{Over}
use Rattle.exchange_core.proofs.share.Share.take.Goals.{After-spot-repeater}
use Rattle.exchange_core.proofs.share.Share.take.Goals as goal

may : (g : Over) (c : After-spot-repeater g) → MayTake c.self.inside.segment_spots.parts.items c.self.inside.repeater_spots.parts.items c.self.inside.segments c.self.inside.repeaters c.args.parcel c.spot-segment.result.part c.spot-repeater.result.part
may g c = record {
  edge = edge_kept c.self.invariant c.spot-segment.ensures.part c.spot-repeater.ensures.part;
  owned = subst (λ (v : Held). has_place_for c.args.parcel v ≡ true) (sym c.self.view_is) c.requires.owned;
  honest = subst (λ (v : Held). (plan : Plan) → IsOfPlan plan v → IsTrueParcel plan c.args.parcel) (sym c.self.view_is) c.requires.honest;
}

pub receive-requires-after_bounds : goal.receive-requires-after_bounds
receive-requires-after_bounds g c κs within =
    if_honest false _ _ _ _ _ _ _ (may g (goal.at.receive-requires-after_bounds g c).After-spot-repeater) c.if-parcel.true

pub invariant_of-self : goal.invariant_of-self
invariant_of-self g c =
    let t = may g (goal.at.invariant_of-self g c).After-spot-repeater in
    whole_taken false _ _ _ _ _ _ _ t c.if-parcel.true c.receive.new.self c.empty.new.self (taken_on false _ _ _ _ _ _ _ t c.if-parcel.true c.receive.new.self c.receive.ensures.new) c.empty.ensures

pub returns-then-parcel : goal.returns-then-parcel
returns-then-parcel g c =
    let t = may g (goal.at.returns-then-parcel g c).After-spot-repeater in
    new_taken false _ _ _ _ _ _ _ t c.if-parcel.true c.receive.new.self c.empty.new.self (taken_on false _ _ _ _ _ _ _ t c.if-parcel.true c.receive.new.self c.receive.ensures.new) c.empty.ensures ∙ ap (take_held c.args.parcel) c.self.view_is

pub receive-requires-else-parcel-after_bounds : goal.receive-requires-else-parcel-after_bounds
receive-requires-else-parcel-after_bounds g c κs within =
    if_honest true _ _ _ _ _ _ _ (may g (goal.at.receive-requires-else-parcel-after_bounds g c).After-spot-repeater) c.if-parcel.false

pub invariant_of-self-else-parcel : goal.invariant_of-self-else-parcel
invariant_of-self-else-parcel g c =
    let t = may g (goal.at.invariant_of-self-else-parcel g c).After-spot-repeater in
    whole_taken true _ _ _ _ _ _ _ t c.if-parcel.false c.receive-else-parcel.new.self c.empty-else-parcel.new.self (taken_on true _ _ _ _ _ _ _ t c.if-parcel.false c.receive-else-parcel.new.self c.receive-else-parcel.ensures.new) c.empty-else-parcel.ensures

pub returns : goal.returns
returns g c =
    let t = may g (goal.at.returns g c).After-spot-repeater in
    new_taken true _ _ _ _ _ _ _ t c.if-parcel.false c.receive-else-parcel.new.self c.empty-else-parcel.new.self (taken_on true _ _ _ _ _ _ _ t c.if-parcel.false c.receive-else-parcel.new.self c.receive-else-parcel.ensures.new) c.empty-else-parcel.ensures ∙ ap (take_held c.args.parcel) c.self.view_is
