use Rattle.std.proofs.Common.{◌≢◌, ◌<◌, ℕ, get_or}
use Rattle.net_parts.specs.declared.parcel.Parcel.{Parcel}
use Rattle.exchange_core.proofs.holder.place_in.Given as goal

abbrev pub invariant-loop-i : goal.invariant-loop-i
invariant-loop-i l = (k : ℕ) (d : Parcel) → k < l.i → (get_or l.parcels k d).edge ≢ l.edge
