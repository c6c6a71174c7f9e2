use Rattle.std.proofs.Common.{◌≡◌, map}
use Rattle.std.specs.List.{range_with_len}
use Rattle.net_step.specs.Wires.{new_wire}
use Rattle.net_step.proofs.devices.new_segments.Given as goal

abbrev pub invariant-loop-segment : goal.invariant-loop-segment
invariant-loop-segment l = l.segments.items ≡ map (new_wire l.taps) (range_with_len 0 l.segment)
