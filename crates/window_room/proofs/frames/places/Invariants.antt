use Rattle.std.proofs.Common.{◌≡◌, length}
use Rattle.window_room.proofs.frames.places.Given as goal

-- so many stations have a place
abbrev pub invariant-loop-station : goal.invariant-loop-station
invariant-loop-station l = length l.list ≡ l._station
