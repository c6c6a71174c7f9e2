use Rattle.std.proofs.Common.{◌≡◌, ◌≤◌, ◌*◌}
use Rattle.net_parts.specs.RepeaterParts.{edges_before}
use Rattle.net_parts.proofs.edges.edges_before.Given as goal
use Rattle.mac_parameters.specs.Parameters.{most_ports}

-- the ports of the repeaters before this one
abbrev pub invariant-loop-k : goal.invariant-loop-k
invariant-loop-k l = record {
  so_far : l.edges ≡ edges_before l.repeaters l.k;
  few : l.edges ≤ most_ports * l.k;
}
