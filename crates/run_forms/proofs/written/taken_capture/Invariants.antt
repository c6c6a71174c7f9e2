use Rattle.std.proofs.Common.{◌≡◌, drop}
use Rattle.run_endings.specs.WrittenNames.{capture_names, first_name_of_input}
use Rattle.run_forms.proofs.written.taken_capture.Given as goal

abbrev pub invariant-loop-station : goal.invariant-loop-station
invariant-loop-station l =
    first_name_of_input l.layout l.network (capture_names l.prefix l.stations)
    ≡ first_name_of_input l.layout l.network (capture_names l.prefix (drop l.station-index l.stations))
