use Rattle.std.proofs.Common.{◌≡◌, ◌++◌, take, drop, map, length}
use Rattle.exchange_core.specs.Holdings.{emptied_parcel}
use Rattle.exchange_core.proofs.holder.empty_all.Given as goal

abbrev pub invariant-loop-parcel : goal.invariant-loop-parcel
invariant-loop-parcel l = (l.parcel-items ≡ map (emptied_parcel l.to_repeater l.window) (take l.parcel-index l.fn.parcels.items) ++ drop l.parcel-index l.fn.parcels.items) × (length l.parcel-items ≡ length l.fn.parcels.items)
