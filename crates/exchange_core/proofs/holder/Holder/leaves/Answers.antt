use Rattle.std.proofs.Common.{sym, ◌∙◌, arith}
use Rattle.exchange_core.specs.Holders.{held_as}
use Rattle.exchange_core.proofs.EdgePlaces.{is_less, leaves_by}
use Rattle.exchange_core.proofs.holder.Holder.leaves.Goals.{then-place-len, else-place-len}
use Rattle.exchange_core.proofs.holder.Holder.leaves.Goals as goal

pub returns-then-not-index : goal.returns-then-not-index
returns-then-not-index g c =
    let s = c.self.inside in
    let h = held_as (g.P.Part.plan s.part) (g.P.Part.number s.part) (g.P.Part.at s.part) s.window s.lost s.refused s.reserved s.parcels.items s.away.items in
    elim c.if-place-len.branch [
      | then-place-len w ↦ leaves_by h c.args.self.now c.args.edge c.args.place c.self.view_is c.self.invariant.sound c.requires (let n = w.if-place-len.true in let l = c.len.ensures in omega (arith, n, l))
          w.index.result.now s.segment c.index-then-not-index.result.now w.index.ensures (sym w.value-is ∙ c.if-not-index.true) c.index-then-not-index.ensures c.self.invariant.segment_is
      | else-place-len w ↦ (let n = w.if-place-len.false in let l = is_less c.args.place c.len.result (sym c.if-not-index.true ∙ w.value-is) in absurd (omega (arith, n, l)))
    ]
