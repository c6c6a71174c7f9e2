use Rattle.std.proofs.Common.{◌≡◌, ◌+◌, ◌++◌, length, take}
use Rattle.std.specs.Vec.Iter.{into_iter_items}
use Rattle.window_room.proofs.frames.handed.Given as goal

-- the captures below place k are in the list, and the rest are still to come
abbrev pub invariant-loop-taken : goal.invariant-loop-taken
invariant-loop-taken l = record {
  len : length l.list ≡ length l.fn.captures.items;
  place : l.k + length (into_iter_items l.taken-iterator) ≡ length l.fn.captures.items;
  lists : take l.k l.list ++ into_iter_items l.taken-iterator ≡ l.fn.captures.items;
}
