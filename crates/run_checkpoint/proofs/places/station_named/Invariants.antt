use Rattle.std.proofs.Common.{◌≡◌, drop, map}
use Rattle.run_checkpoint.specs.Places.{device_from}
use Rattle.run_checkpoint.proofs.places.station_named.Given as goal

abbrev pub invariant-stations : goal.invariant-stations
invariant-stations l = device_from 0 l.name (map (λ s. s.name) l.stations) ≡ device_from l.k l.name (map (λ s. s.name) (drop l.k l.stations))
