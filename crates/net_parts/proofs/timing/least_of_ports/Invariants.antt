use Rattle.std.proofs.Common.{◌≡◌, ◌≤◌, ◌+◌, min, drop}
use Rattle.layout.specs.Taps.{taps_of}
use Rattle.net_parts.specs.Windows.{least_of_ports, most_lookahead}
use Rattle.net_parts.proofs.timing.least_of_ports.Given as goal

-- the least so far and that of the ports that are left
abbrev pub invariant-loop-k : goal.invariant-loop-k
invariant-loop-k l = record {
  so_far : min l.least (least_of_ports (taps_of l.layout) l.delay (l.first + l.k) (drop l.k l.ports)) ≡ least_of_ports (taps_of l.layout) l.delay l.first l.ports;
  most : l.least ≤ most_lookahead;
}
