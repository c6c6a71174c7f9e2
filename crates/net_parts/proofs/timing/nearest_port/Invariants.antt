use Rattle.std.proofs.Common.{◌≡◌, ◌≤◌, ◌+◌, min, drop}
use Rattle.net_parts.specs.Windows.{nearest, most_lookahead}
use Rattle.net_parts.proofs.timing.nearest_port.Given as goal

-- the least so far and that of the ports that are left
abbrev pub invariant-loop-k : goal.invariant-loop-k
invariant-loop-k l = record {
  so_far : min l.least (nearest l.tap l.here (l.first + l.k) (drop l.k l.ports)) ≡ nearest l.tap l.here l.first l.ports;
  most : l.least ≤ most_lookahead;
}
