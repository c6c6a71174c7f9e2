use Rattle.std.proofs.Common.{ap, sym, ◌∙◌, length, ◌<◌, arith, set}
use Rattle.std.proofs.lemmas.List.Edits.{map_over_more}
use Rattle.std.proofs.Math.ListN.{length-set}
use Rattle.net_parts.specs.declared.parcel.Parcel.{Parcel}
use Rattle.exchange_core.specs.Holdings.{emptied_parcel}
use Rattle.exchange_core.proofs.holder.empty_all.Goals as goal

pub loop-parcel-preserved : goal.loop-parcel-preserved
loop-parcel-preserved c =
    let xs = c.args.parcels.now.items in
    let ys = c.loop-parcel.parcel-items in
    let k = c.loop-parcel.parcel-index in
    let emptied = emptied_parcel c.args.to_repeater c.args.window in
    let within : k < length xs = omega arith in (
      ap (λ (p : Parcel). set ys k p) (c.empty.ensures ∙ ap emptied (sym c.parcel-item.is)) ∙ map_over_more emptied xs ys k c.parcel-item.result within c.loop-parcel.invariant.0 c.parcel-item.is,
      length-set ys k c.empty.new.parcel ∙ c.loop-parcel.invariant.1,
    )
