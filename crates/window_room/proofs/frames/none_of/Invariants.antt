use Rattle.std.proofs.Common.{◌≡◌, replicate, []}
use Rattle.window_room.proofs.frames.none_of.Given as goal

-- so many stations have captured nothing
abbrev pub invariant-loop-station : goal.invariant-loop-station
invariant-loop-station l = l.captures.items ≡ replicate l._station []
