use Rattle.std.proofs.Common.{◌≡◌, ◌++◌, length, map, take, drop}
use Rattle.turn_run.specs.SilentWindows.{stamped}
use Rattle.turn_run.proofs.quiet.stamp_all.Given as goal

-- the parcels so far have the stamp
abbrev pub invariant-loop-parcel : goal.invariant-loop-parcel
invariant-loop-parcel l = record {
  len : length l.parcels ≡ length l.fn.parcels;
  told : take l.parcel-index l.parcels ++ map (stamped l.window) (drop l.parcel-index l.parcels) ≡ map (stamped l.window) l.fn.parcels;
}
