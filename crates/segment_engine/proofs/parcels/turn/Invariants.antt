use Rattle.std.proofs.Common.{◌≡◌, ◌++◌, length, map, take, drop}
use Rattle.segment_engine.specs.PartStates.{turned_to_repeater}
use Rattle.segment_engine.proofs.parcels.turn.Given as goal

-- the parcels so far are turned, and the others are not
abbrev pub invariant-loop-parcel : goal.invariant-loop-parcel
invariant-loop-parcel l = record {
  len : length l.parcels ≡ length l.fn.parcels;
  turned : take l.parcel-index l.parcels ++ map (turned_to_repeater l.count) (drop l.parcel-index l.parcels) ≡ map (turned_to_repeater l.count) l.fn.parcels;
}
