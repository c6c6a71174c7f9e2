use Rattle.std.proofs.Common.{◌≡◌, false, map, take}
use Rattle.net_parts.specs.Parcels.{true_parcel}
use Rattle.net_parts.proofs.edges.paced_opening.Given as goal

-- the parcels of the edges so far
abbrev pub invariant-loop-k : goal.invariant-loop-k
invariant-loop-k l = l.parcels ≡ map (true_parcel l.plan false 0) (take l.k l.edges)
