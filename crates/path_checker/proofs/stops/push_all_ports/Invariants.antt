use Rattle.std.proofs.Common.{◌≡◌, ◌++◌, drop}
use Rattle.path_checker.specs.Stops.{repeater_stops}
use Rattle.path_checker.proofs.stops.push_all_ports.Given as goal

abbrev pub invariant-loop-k : goal.invariant-loop-k
invariant-loop-k l = l.initial.stops ++ repeater_stops 0 l.repeaters ≡ l.stops ++ repeater_stops l.k (drop l.k l.repeaters)
