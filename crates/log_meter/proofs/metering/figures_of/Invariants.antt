use Rattle.std.proofs.Common.{◌≡◌, ◌++◌}
use Rattle.log_meter.specs.Tallies.{repeaters_named, stations_named}
use Rattle.log_meter.proofs.metering.figures_of.Given as goal

abbrev pub invariant-loop-name : goal.invariant-loop-name
invariant-loop-name l =
    record {
      stations : l.stations ++ stations_named l.name-iterator ≡ stations_named l.initial.name-iterator;
      repeaters : l.repeaters ++ repeaters_named l.name-iterator ≡ repeaters_named l.initial.name-iterator;
    }
