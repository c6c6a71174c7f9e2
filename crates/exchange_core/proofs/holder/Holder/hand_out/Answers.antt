use Rattle.std.proofs.Common.{ap, ◌∙◌, arith}
use Rattle.exchange_core.specs.Holdings.{absent_parcel}
use Rattle.exchange_core.proofs.HolderFields.{in_parcels, in_away, holder_vacate, vacated_is}
use Rattle.exchange_core.proofs.EdgePlaces.{parcel_at_place}
use Rattle.exchange_core.proofs.holder.Holder.hand_out.Goals as goal

pub index_mut-requires : goal.index_mut-requires
index_mut-requires g c = let l = in_away _ _ _ _ _ c.self.invariant c.args.self.now c.args.edge c.args.place c.self.view_is c.requires.edge c.requires.place in omega (arith, l)

pub index_mut-requires-2 : goal.index_mut-requires-2
index_mut-requires-2 g c = let l = in_parcels _ _ _ _ _ c.self.invariant c.args.self.now c.args.edge c.args.place c.self.view_is c.requires.edge c.requires.place in omega (arith, l)

pub invariant_of-self : goal.invariant_of-self
invariant_of-self g c = holder_vacate _ _ _ _ _ c.self.invariant c.args.self.now c.args.edge c.args.place c.self.view_is c.requires.edge c.requires.place c.swap.new.y (c.swap.ensures.y_after ∙ c.empty.ensures ∙ ap (absent_parcel c.self.inside.segment) c.requires.same)

pub returns-clause-value : goal.returns-clause-value
returns-clause-value g c =
    c.swap.ensures.x_after ∙ parcel_at_place _ c.args.self.now c.args.edge c.args.place c.self.view_is c.index_mut-2.result.now c.requires.edge c.requires.place c.index_mut-2.ensures.value

pub returns-clause-new : goal.returns-clause-new
returns-clause-new g c = vacated_is _ _ _ _ _ c.self.invariant c.args.self.now c.args.edge c.args.place c.self.view_is c.requires.edge c.requires.place c.swap.new.y (c.swap.ensures.y_after ∙ c.empty.ensures ∙ ap (absent_parcel c.self.inside.segment) c.requires.same)
