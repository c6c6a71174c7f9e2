use Rattle.std.proofs.Common.{◌≡◌, ◌++◌, drop}
use Rattle.path_slack.proofs.lengthen.copied_stations.Given as goal

abbrev pub invariant-loop-station : goal.invariant-loop-station
invariant-loop-station l = l.stations ≡ l.copy ++ drop l.station-index l.stations
