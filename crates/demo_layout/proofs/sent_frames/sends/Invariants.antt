use Rattle.std.proofs.Common.{◌≡◌}
use Rattle.std.specs.List.{range_with_len, flat_map}
use Rattle.demo_layout.specs.Demo.{demo_sends_of}
use Rattle.demo_layout.proofs.sent_frames.sends.Given as goal

abbrev pub invariant-loop-station : goal.invariant-loop-station
invariant-loop-station l = l.sends ≡ flat_map demo_sends_of (range_with_len 0 l.station)
