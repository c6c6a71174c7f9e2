use Rattle.std.proofs.Common.{◌≡◌, ◌≤◌, length, drop}
use Rattle.window_room.specs.FreshFrames.{captures_marked}
use Rattle.window_room.proofs.frames.settle_frames.Given as goal

-- the frames of the marks below place i are settled
abbrev pub invariant-loop-i : goal.invariant-loop-i
invariant-loop-i l = record {
  at : l.done ≡ l.i;
  within : l.i ≤ length l.marks;
  len : length l.captures ≡ length l.fn.captures;
  same : captures_marked l.octets (drop l.i l.marks) l.captures ≡ captures_marked l.octets (drop l.fn.done l.marks) l.fn.captures;
}
