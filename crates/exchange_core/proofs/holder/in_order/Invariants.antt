use Rattle.std.proofs.Common.{◌≡◌, ◌++◌, length, reverse}
use Rattle.exchange_core.proofs.holder.in_order.Given as goal

abbrev pub invariant-loop-parcel : goal.invariant-loop-parcel
invariant-loop-parcel l = l.rest ++ reverse l.all.items ≡ l.initial.rest

abbrev pub decreases-loop-parcel : goal.decreases-loop-parcel
decreases-loop-parcel l = length l.rest
