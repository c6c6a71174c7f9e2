use Rattle.std.proofs.Common.{◌≡◌, ◌++◌, map}
use Rattle.std.specs.List.{range_with_len}
use Rattle.demo_layout.specs.Demo.{demo_send}
use Rattle.demo_layout.proofs.sent_frames.add_sends.Given as goal

abbrev pub invariant-loop-j : goal.invariant-loop-j
invariant-loop-j l = l.sends ≡ l.fn.sends ++ map (demo_send l.station) (range_with_len 0 l.j)
