use Rattle.std.proofs.Common.{◌≡◌, ◌++◌, length, map, take, drop}
use Rattle.repeater_engine.specs.KeptRepeaters.{turned_to_segment}
use Rattle.repeater_engine.proofs.parcels.turn_all.Given as goal

-- the parcels so far are turned
abbrev pub invariant-loop-parcel : goal.invariant-loop-parcel
invariant-loop-parcel l = record {
  len : length l.parcels ≡ length l.fn.parcels;
  told : take l.parcel-index l.parcels ++ map (turned_to_segment l.stamp) (drop l.parcel-index l.parcels) ≡ map (turned_to_segment l.stamp) l.fn.parcels;
}
