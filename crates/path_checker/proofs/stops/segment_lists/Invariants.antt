use Rattle.std.proofs.Common.{◌≡◌, map}
use Rattle.layout.specs.Joined.{counted_up}
use Rattle.path_checker.specs.Stops.{stops_on}
use Rattle.path_checker.proofs.stops.segment_lists.Given as goal

abbrev pub invariant-loop-segment : goal.invariant-loop-segment
invariant-loop-segment l = l.lists ≡ map (stops_on l.all) (counted_up l.segment)
