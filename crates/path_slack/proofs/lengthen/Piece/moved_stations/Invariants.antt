use Rattle.std.proofs.Common.{◌≡◌, map, take}
use Rattle.path_slack.specs.Lengthened.{moved_station}
use Rattle.path_slack.proofs.lengthen.Piece.moved_stations.Given as goal

abbrev pub invariant-loop-station : goal.invariant-loop-station
invariant-loop-station l = l.moved ≡ map (moved_station l.self.segment l.self.high l.self.by) (take l.station-index l.stations)
