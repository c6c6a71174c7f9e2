use Rattle.std.proofs.Common.{◌≡◌, ap, sym, subst, ◌∙◌, arith}
use Rattle.std.specs.Prelude.{IfSome}
use Rattle.net_parts.specs.declared.parcel.Parcel.{Parcel}
use Rattle.net_parts.specs.Parcels.{IsTrueParcel}
use Rattle.exchange_core.specs.Holdings.{Holding, absent_parcel}
use Rattle.exchange_core.specs.Shares.{part_on, received_on}
use Rattle.exchange_core.proofs.HolderFields.{in_parcels, in_away, holder_vacate, vacated_is}
use Rattle.exchange_core.proofs.EdgePlaces.{parcel_at_place, edge_at_place}
use Rattle.exchange_core.proofs.holder.Holder.hand_over.Given.{Over}
use Rattle.exchange_core.proofs.holder.Holder.hand_over.Goals.{After-empty}
use Rattle.exchange_core.proofs.holder.Holder.hand_over.Goals as goal

pub index_mut-parcel-requires : goal.index_mut-parcel-requires
index_mut-parcel-requires g c = let l = in_parcels _ _ _ _ _ c.self.invariant c.args.self.now c.args.edge c.args.here c.self.view_is c.requires.edge c.requires.place in omega (arith, l)

pub receive-requires-after_bounds : goal.receive-requires-after_bounds
receive-requires-after_bounds g c κs within =
    subst (λ (p : Parcel). IfSome (part_on c.args.part c.args.to.now) (λ (x : Holding). IsTrueParcel x.plan p))
    (sym (parcel_at_place _ c.args.self.now c.args.edge c.args.here c.self.view_is c.index_mut-parcel.result.now c.requires.edge c.requires.place c.index_mut-parcel.ensures.value)) c.requires.honest

pub index_mut-requires : goal.index_mut-requires
index_mut-requires g c = let l = in_away _ _ _ _ _ c.self.invariant c.args.self.now c.args.edge c.args.here c.self.view_is c.requires.edge c.requires.place in omega (arith, l)

gone : (g : Over) (c : After-empty g) → c.empty.new.parcel ≡ absent_parcel c.self.inside.segment c.args.edge
gone g c = c.empty.ensures ∙ ap (absent_parcel c.self.inside.segment) (c.receive.ensures.edge ∙ edge_at_place _ c.args.self.now c.args.edge c.args.here c.self.view_is c.index_mut-parcel.result.now c.requires.edge c.requires.place c.index_mut-parcel.ensures.value)

pub invariant_of-self : goal.invariant_of-self
invariant_of-self g c = holder_vacate _ _ _ _ _ c.self.invariant c.args.self.now c.args.edge c.args.here c.self.view_is c.requires.edge c.requires.place c.empty.new.parcel (gone g (goal.at.invariant_of-self g c).After-empty)

pub returns-clause-come : goal.returns-clause-come
returns-clause-come g c =
    c.receive.ensures.new ∙ ap (λ (p : Parcel). received_on p c.args.part c.args.to.now) (parcel_at_place _ c.args.self.now c.args.edge c.args.here c.self.view_is c.index_mut-parcel.result.now c.requires.edge c.requires.place c.index_mut-parcel.ensures.value)

pub returns-clause-left : goal.returns-clause-left
returns-clause-left g c = vacated_is _ _ _ _ _ c.self.invariant c.args.self.now c.args.edge c.args.here c.self.view_is c.requires.edge c.requires.place c.empty.new.parcel (gone g (goal.at.returns-clause-left g c).After-empty)
