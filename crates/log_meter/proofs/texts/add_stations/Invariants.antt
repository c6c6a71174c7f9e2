use Rattle.std.proofs.Common.{◌≡◌, ◌++◌, drop}
use Rattle.log_meter.specs.FigureTexts.{lines_of_stations}
use Rattle.log_meter.proofs.texts.add_stations.Given as goal

abbrev pub invariant-loop-station : goal.invariant-loop-station
invariant-loop-station l = l.text ++ lines_of_stations (drop l.station-index l.stations) ≡ l.fn.text ++ lines_of_stations l.stations
