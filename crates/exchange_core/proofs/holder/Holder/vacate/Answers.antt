use Rattle.std.proofs.Common.{◌≡◌, true, ap, sym, ◌∙◌, arith}
use Rattle.std.specs.Prelude.{if◌then◌else◌}
use Rattle.net_parts.specs.Boards.{has_edge}
use Rattle.exchange_core.specs.Holdings.{edges_of_parcels, vacate_holding}
use Rattle.exchange_core.specs.Holders.{held_as}
use Rattle.exchange_core.proofs.EdgePlaces.{has_where}
use Rattle.exchange_core.proofs.holder.Holder.vacate.Goals as goal

pub clear-requires-clause-edge : goal.clear-requires-clause-edge
clear-requires-clause-edge g c κs within =
    let s = c.self.inside in
    let h = held_as (g.P.Part.plan s.part) (g.P.Part.number s.part) (g.P.Part.at s.part) s.window s.lost s.refused s.reserved s.parcels.items s.away.items in
    has_where h c.args.self.now c.args.edge c.place_of-place.result c.self.view_is c.place_of-place.ensures.place (let n = c.if-place-len.false in let l = c.len.ensures in omega (arith, n, l))

pub returns : goal.returns
returns g c =
    let s = c.self.inside in
    let h = held_as (g.P.Part.plan s.part) (g.P.Part.number s.part) (g.P.Part.at s.part) s.window s.lost s.refused s.reserved s.parcels.items s.away.items in
    let has : has_edge (edges_of_parcels c.args.self.now.parcels) c.args.edge ≡ true =
    has_where h c.args.self.now c.args.edge c.place_of-place.result c.self.view_is c.place_of-place.ensures.place (let n = c.if-place-len.false in let l = c.len.ensures in omega (arith, n, l)) in
    c.clear.ensures ∙ sym (ap (λ b. if b then vacate_holding c.args.edge c.args.self.now else c.args.self.now) has)
