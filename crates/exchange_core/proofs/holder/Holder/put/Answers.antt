use Rattle.std.proofs.Common.{◌≡◌, ap, sym, set, subst, ◌∙◌, true, false, arith}
use Rattle.net_parts.specs.declared.parcel.Parcel.{Parcel}
use Rattle.net_parts.specs.Boards.{has_edge}
use Rattle.net_parts.specs.Parcels.{IsTrueParcel}
use Rattle.exchange_core.specs.Holdings.{Holding, edges_of_parcels, place_of_edge}
use Rattle.exchange_core.specs.Holders.{IsHolder, held_as}
use Rattle.exchange_core.proofs.HolderFields.{holder_take}
use Rattle.exchange_core.proofs.EdgePlaces.{within_parcels, edge_at_place}
use Rattle.exchange_core.proofs.holder.Holder.put.Goals as goal

pub invariant_of-self : goal.invariant_of-self
invariant_of-self g c =
    let s = c.self.inside in
    let h = held_as (g.P.Part.plan s.part) (g.P.Part.number s.part) (g.P.Part.at s.part) s.window s.lost s.refused s.reserved s.parcels.items s.away.items in
    subst (λ (p : Parcel). IsHolder s.number s.windows s.segment (g.P.Part.reserved s.part) (held_as h.plan h.number h.at h.window h.lost h.refused h.reserved (set h.parcels c.args.place p) (set h.away c.args.place false))) (sym c.swap.ensures.x_after)
    (holder_take s.number s.windows s.segment (g.P.Part.reserved s.part) h c.self.invariant c.args.place c.args.parcel.now
    (subst (λ (v : Holding). has_edge (edges_of_parcels v.parcels) c.args.parcel.now.edge ≡ true) (sym c.self.view_is) c.requires.edge)
    (subst (λ (v : Holding). IsTrueParcel v.plan c.args.parcel.now) (sym c.self.view_is) c.requires.honest)
    (c.requires.place ∙ ap (place_of_edge c.args.parcel.now.edge) (sym c.self.view_is)))

pub index_mut-requires : goal.index_mut-requires
index_mut-requires g c =
    let s = c.self.inside in
    let h = held_as (g.P.Part.plan s.part) (g.P.Part.number s.part) (g.P.Part.at s.part) s.window s.lost s.refused s.reserved s.parcels.items s.away.items in
    let l = within_parcels h c.args.self.now c.args.parcel.now.edge c.args.place c.self.view_is c.requires.edge c.requires.place in
    let m = c.self.invariant.sound.places in
    omega (arith, l, m)

pub index_mut-requires-2 : goal.index_mut-requires-2
index_mut-requires-2 g c =
    let s = c.self.inside in
    let h = held_as (g.P.Part.plan s.part) (g.P.Part.number s.part) (g.P.Part.at s.part) s.window s.lost s.refused s.reserved s.parcels.items s.away.items in
    let l = within_parcels h c.args.self.now c.args.parcel.now.edge c.args.place c.self.view_is c.requires.edge c.requires.place in
    omega (arith, l)

pub returns-clause-edge : goal.returns-clause-edge
returns-clause-edge g c =
    let s = c.self.inside in
    let h = held_as (g.P.Part.plan s.part) (g.P.Part.number s.part) (g.P.Part.at s.part) s.window s.lost s.refused s.reserved s.parcels.items s.away.items in
    ap (λ (p : Parcel). p.edge) c.swap.ensures.y_after ∙ edge_at_place h c.args.self.now c.args.parcel.now.edge c.args.place c.self.view_is c.index_mut-2.result.now c.requires.edge c.requires.place c.index_mut-2.ensures.value
