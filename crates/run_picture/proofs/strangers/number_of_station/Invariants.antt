use Rattle.std.proofs.Common.{◌≡◌, drop}
use Rattle.std.specs.List.{position_from}
use Rattle.std.specs.Str.{bytes_eq}
use Rattle.run_picture.specs.Strangers.{number_of_station}
use Rattle.run_picture.proofs.strangers.number_of_station.Given as goal

abbrev pub invariant-stations : goal.invariant-stations
invariant-stations l = position_from (λ s. bytes_eq s.name l.name) l.k (drop l.k l.stations) ≡ number_of_station l.stations l.name
