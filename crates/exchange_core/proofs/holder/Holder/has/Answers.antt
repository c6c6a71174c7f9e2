use Rattle.std.proofs.Common.{arith}
use Rattle.exchange_core.specs.Holders.{held_as}
use Rattle.exchange_core.proofs.EdgePlaces.{has_by_place}
use Rattle.exchange_core.proofs.holder.Holder.has.Goals as goal

pub returns : goal.returns
returns g c =
    let s = c.self.inside in
    let h = held_as (g.P.Part.plan s.part) (g.P.Part.number s.part) (g.P.Part.at s.part) s.window s.lost s.refused s.reserved s.parcels.items s.away.items in
    has_by_place h c.args.self.now c.args.edge c.place_of.result c.self.view_is c.len.result (let l = c.len.ensures in omega (arith, l)) c.place_of.ensures.place
