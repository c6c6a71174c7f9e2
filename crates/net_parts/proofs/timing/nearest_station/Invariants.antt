use Rattle.std.proofs.Common.{◌≡◌, ◌≤◌, min, drop, map}
use Rattle.layout.specs.Taps.{tap_of}
use Rattle.net_parts.specs.Windows.{nearest, most_lookahead}
use Rattle.net_parts.proofs.timing.nearest_station.Given as goal

-- the least so far and that of the stations that are left
abbrev pub invariant-loop-station : goal.invariant-loop-station
invariant-loop-station l = record {
  so_far : min l.least (nearest l.tap l.here l.station-index (map tap_of (drop l.station-index l.stations))) ≡ nearest l.tap l.here 0 (map tap_of l.stations);
  most : l.least ≤ most_lookahead;
}
