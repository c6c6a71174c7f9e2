use Rattle.std.proofs.Common.{◌≡◌, ◌+◌, ◌++◌, drop}
use Rattle.network.specs.TapsOnSegments.{numbers_on}
use Rattle.net_parts.proofs.edges.push_edges.Given as goal

-- the edges so far and those of the ports that are left
abbrev pub invariant-loop-k : goal.invariant-loop-k
invariant-loop-k l = l.edges ++ numbers_on l.segment (l.first + l.k) (drop l.k l.ports) ≡ l.fn.edges ++ numbers_on l.segment l.first l.ports
