use Rattle.std.proofs.Common.{◌≡◌, ◌≤◌, ◌*◌, ◌++◌, drop}
use Rattle.std.specs.List.{flat_map}
use Rattle.network.specs.TapsOnSegments.{numbers_on}
use Rattle.net_parts.specs.SegmentParts.{wiring}
use Rattle.net_parts.proofs.edges.edges_on_segment.Given as goal
use Rattle.mac_parameters.specs.Parameters.{most_ports}

-- the edges so far and those of the repeaters that are left
abbrev pub invariant-loop-repeater : goal.invariant-loop-repeater
invariant-loop-repeater l = record {
  so_far : l.edges ++ numbers_on l.segment l.first (flat_map (λ r. r.ports) (drop l.repeater-index l.repeaters)) ≡ (wiring l.layout l.segment).edges;
  few : l.first ≤ most_ports * l.repeater-index;
}
