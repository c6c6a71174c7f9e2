use Rattle.std.proofs.Common.{◌≡◌, ◌≤◌, ◌+◌, ◌*◌, min, drop, length}
use Rattle.layout.specs.Taps.{taps_of}
use Rattle.net_parts.specs.Windows.{least_of_repeaters, most_lookahead}
use Rattle.net_parts.proofs.NearestTaps.{most_stations}
use Rattle.net_parts.proofs.timing.lookahead.Given as goal
use Rattle.mac_parameters.specs.Parameters.{most_ports}

-- the least so far and that of the repeaters that are left
abbrev pub invariant-loop-repeater : goal.invariant-loop-repeater
invariant-loop-repeater l = record {
  so_far : min l.least (least_of_repeaters (taps_of l.layout) l.tap (drop l.repeater-index l.repeaters)) ≡ least_of_repeaters (taps_of l.layout) (length l.layout.stations) l.layout.repeaters;
  most : l.least ≤ most_lookahead;
  few : l.tap ≤ most_stations + most_ports * l.repeater-index;
  stations : length l.layout.stations ≤ l.tap;
}
