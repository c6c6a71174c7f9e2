use Rattle.std.proofs.Common.{◌≡◌, ℕ, ◌<◌, slice_index_or}
use Rattle.manchester_line.specs.declared.Sym.TheVariants.{Idle}
use Rattle.net_parts.specs.declared.parcel.Parcel.{Parcel}
use Rattle.repeater_core.specs.Classes.{class_of}
use Rattle.repeater_engine.proofs.leaps.heard_alike.Given as goal

-- the ports below p hear symbols of those classes
abbrev pub invariant-loop-p : goal.invariant-loop-p
invariant-loop-p l = (q : ℕ) (d : Parcel) → q < l.p → class_of (slice_index_or (slice_index_or l.parcels q d).symbols l.k Idle) ≡ class_of (slice_index_or l.heard q Idle)
