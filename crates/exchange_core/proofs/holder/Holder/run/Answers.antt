use Rattle.std.proofs.Common.{◌≡◌, false, ap, sym, subst, ◌∙◌, List, length, arith}
use Rattle.std.specs.Vec.{with_items}
use Rattle.std.proofs.lemmas.List.{with_items_is}
use Rattle.net_parts.specs.declared.parcel.Parcel.{Parcel}
use Rattle.net_parts.specs.Parcels.{arrived}
use Rattle.exchange_core.specs.Holdings.{Holding, IsHoldingReady, IsHoldingClean}
use Rattle.exchange_core.specs.Holders.{held_as}
use Rattle.exchange_core.proofs.SoundHoldings.{arrived_is}
use Rattle.exchange_core.proofs.HolderFields.{holder_run}
use Rattle.exchange_core.proofs.holder.Holder.run.Goals as goal

pub run_window-requires-clause-parcels : goal.run_window-requires-clause-parcels
run_window-requires-clause-parcels g c =
    let s = c.self.inside in
    let h = held_as (g.P.Part.plan s.part) (g.P.Part.number s.part) (g.P.Part.at s.part) s.window s.lost s.refused s.reserved s.parcels.items s.away.items in
    let kept : h.lost ≡ false = ap (λ (v : Holding). v.lost) c.self.view_is ∙ c.requires.kept in
    c.as_mut_slice.ensures.value
    ∙ arrived_is h c.self.invariant.sound (subst IsHoldingReady (sym c.self.view_is) c.requires.ready) (subst IsHoldingClean (sym c.self.view_is) c.requires.clean)
    ∙ ap (arrived h.plan h.number) (c.self.invariant.sound.stands kept)

pub invariant_of-self : goal.invariant_of-self
invariant_of-self g c =
    let s = c.self.inside in
    let h = held_as (g.P.Part.plan s.part) (g.P.Part.number s.part) (g.P.Part.at s.part) s.window s.lost s.refused s.reserved s.parcels.items s.away.items in
    let r = c.run_window.ensures in
    let part = c.run_window.new.self in
    let kept : h.lost ≡ false = ap (λ (v : Holding). v.lost) c.self.view_is ∙ c.requires.kept in
    let qs : List Parcel = (with_items s.parcels c.run_window.new.parcels).items in
    let long : length c.run_window.new.parcels ≡ s.parcels.len = omega arith in
    holder_run s.number s.windows s.segment (g.P.Part.reserved s.part) h c.self.invariant
    (g.P.Part.plan part) (g.P.Part.number part) (g.P.Part.at part) (g.P.Part.reserved part) qs kept r.plan r.number r.at (with_items_is s.parcels c.run_window.new.parcels long ∙ r.parcels)
