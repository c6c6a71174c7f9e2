use Rattle.std.proofs.Common.{◌≡◌, ◌++◌, drop}
use Rattle.path_checker.specs.Stops.{port_stops}
use Rattle.path_checker.proofs.stops.push_ports.Given as goal

abbrev pub invariant-loop-k : goal.invariant-loop-k
invariant-loop-k l = l.initial.stops ++ port_stops l.repeater 0 l.ports ≡ l.stops ++ port_stops l.repeater l.k (drop l.k l.ports)
