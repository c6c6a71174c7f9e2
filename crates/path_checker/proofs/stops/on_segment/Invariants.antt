use Rattle.std.proofs.Common.{◌≡◌, ◌++◌, drop}
use Rattle.path_checker.specs.Stops.{stops_on}
use Rattle.path_checker.proofs.stops.on_segment.Given as goal

abbrev pub invariant-loop-stop : goal.invariant-loop-stop
invariant-loop-stop l = stops_on l.all l.segment ≡ l.stops ++ stops_on (drop l.stop-index l.all) l.segment
