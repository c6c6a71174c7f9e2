use Rattle.std.proofs.Common.{◌≡◌}
use Rattle.net_parts.specs.Machines.{span}
use Rattle.net_parts.proofs.edges.edges_at_repeater.Given as goal

-- the edges so far
abbrev pub invariant-loop-p : goal.invariant-loop-p
invariant-loop-p l = l.edges ≡ span (λ e. e) l.first l.p
