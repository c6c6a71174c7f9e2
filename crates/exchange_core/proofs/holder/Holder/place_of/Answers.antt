use Rattle.std.proofs.Common.{ap, sym, ◌∙◌, arith}
use Rattle.net_parts.specs.declared.parcel.Parcel.{Parcel}
use Rattle.exchange_core.specs.Holdings.{place_of_edge}
use Rattle.exchange_core.specs.Holders.{held_as}
use Rattle.exchange_core.proofs.EdgePlaces.{hinted}
use Rattle.exchange_core.proofs.holder.Holder.place_of.Goals as goal

pub returns-then-index-edge-clause-place : goal.returns-then-index-edge-clause-place
returns-then-index-edge-clause-place g c =
    let s = c.self.inside in
    let h = held_as (g.P.Part.plan s.part) (g.P.Part.number s.part) (g.P.Part.at s.part) s.window s.lost s.refused s.reserved s.parcels.items s.away.items in
    hinted h c.self.invariant.sound c.args.edge c.args.hint c.index.result.now (let n = c.if-hint-len.true in let l = c.len.ensures in omega (arith, n, l))
    (ap (λ (p : Parcel). p.edge) (sym c.index.ensures) ∙ c.if-index-edge.true)
    ∙ ap (place_of_edge c.args.edge) c.self.view_is
