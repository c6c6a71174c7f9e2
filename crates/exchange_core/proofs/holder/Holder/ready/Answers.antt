use Rattle.std.proofs.Common.{subst, IsTrue, ◌↔◌}
use Rattle.exchange_core.specs.Holdings.{Holding, IsHoldingReady}
use Rattle.exchange_core.specs.Holders.{held_as}
use Rattle.exchange_core.proofs.HolderFields.{ready_tie}
use Rattle.exchange_core.proofs.holder.Holder.ready.Goals as goal

pub returns-then-self : goal.returns-then-self
returns-then-self g c =
    let s = c.self.inside in
    let h = held_as (g.P.Part.plan s.part) (g.P.Part.number s.part) (g.P.Part.at s.part) s.window s.lost s.refused s.reserved s.parcels.items s.away.items in
    subst (λ (v : Holding). IsTrue c.are_on_way.result ↔ IsHoldingReady v) c.self.view_is
    (ready_tie h s.windows s.segment c.are_on_way.result c.as_slice.result.now c.self.invariant.windows_are c.self.invariant.segment_is c.as_slice.ensures.value c.if-self.true c.are_on_way.ensures)
