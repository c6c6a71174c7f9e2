use Rattle.std.proofs.Common.{◌≡◌, drop}
use Rattle.run_endings.specs.WrittenNames.{is_name_of_load}
use Rattle.run_forms.proofs.written.is_name_of_load.Given as goal

abbrev pub invariant-loop-station : goal.invariant-loop-station
invariant-loop-station l = is_name_of_load l.stations l.name ≡ is_name_of_load (drop l.station-index l.stations) l.name
