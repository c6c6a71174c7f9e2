use Rattle.std.proofs.Common.{◌≡◌, ◌++◌, drop}
use Rattle.path_checker.specs.Stops.{station_stops}
use Rattle.path_checker.proofs.stops.push_stations.Given as goal

abbrev pub invariant-loop-k : goal.invariant-loop-k
invariant-loop-k l = l.initial.stops ++ station_stops 0 l.stations ≡ l.stops ++ station_stops l.k (drop l.k l.stations)
