use Rattle.std.proofs.Common.{◌≡◌, ap, sym, ◌∙◌}
use Rattle.net_parts.specs.Parts.{is_segment_part}
use Rattle.net_parts.specs.Parcels.{next_stamp}
use Rattle.exchange_core.specs.Holders.{held_as}
use Rattle.exchange_core.proofs.HolderFields.{holder_spoil}
use Rattle.exchange_core.proofs.holder.Holder.spoil.Goals.{then-self, else-self}
use Rattle.exchange_core.proofs.holder.Holder.spoil.Goals as goal

pub invariant_of-self : goal.invariant_of-self
invariant_of-self g c =
    let s = c.self.inside in
    let h = held_as (g.P.Part.plan s.part) (g.P.Part.number s.part) (g.P.Part.at s.part) s.window s.lost s.refused s.reserved s.parcels.items s.away.items in
    let stamp : c.if-self.stamp ≡ next_stamp (is_segment_part h.plan h.number) h.window = elim c.if-self.branch [
      | then-self w ↦ w.stamp-is ∙ ap (λ b. next_stamp b h.window) (sym w.if-self.true ∙ c.self.invariant.segment_is)
      | else-self w ↦ w.stamp-is ∙ ap (λ b. next_stamp b h.window) (sym w.if-self.false ∙ c.self.invariant.segment_is)
    ] in
    holder_spoil s.number s.windows s.segment (g.P.Part.reserved s.part) h c.self.invariant c.if-self.stamp c.empty_all.new.parcels.items stamp c.empty_all.ensures
