use Rattle.std.proofs.Common.{◌≡◌, ◌≤◌, ◌+◌, ◌*◌, min, drop}
use Rattle.std.specs.List.{flat_map}
use Rattle.layout.specs.Taps.{taps_of}
use Rattle.net_parts.specs.Windows.{nearest, most_lookahead}
use Rattle.net_parts.proofs.NearestTaps.{most_stations}
use Rattle.net_parts.proofs.timing.nearest.Given as goal
use Rattle.mac_parameters.specs.Parameters.{most_ports}

-- the least so far and that of the repeaters that are left
abbrev pub invariant-loop-repeater : goal.invariant-loop-repeater
invariant-loop-repeater l = record {
  so_far : min l.least (nearest l.tap l.here l.first (flat_map (λ r. r.ports) (drop l.repeater-index l.repeaters))) ≡ nearest l.tap l.here 0 (taps_of l.layout);
  most : l.least ≤ most_lookahead;
  few : l.first ≤ most_stations + most_ports * l.repeater-index;
}
