use Rattle.std.proofs.Common.{◌≡◌, false, take, map}
use Rattle.exchange_core.specs.Holdings.{absent_parcel}
use Rattle.exchange_core.proofs.holder.absent_parcels.Given as goal

abbrev pub invariant-loop-edge : goal.invariant-loop-edge
invariant-loop-edge l = l.parcels.items ≡ map (absent_parcel false) (take l.edge-index l.edges)
