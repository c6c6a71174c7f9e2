use Rattle.std.proofs.Common.{◌≡◌, ◌≤◌}
use Rattle.net_parts.specs.RepeaterParts.{edges_before}
use Rattle.part_dealing.proofs.dealing.other_end.Given as goal

-- the edge is none of those of the repeaters so far
abbrev pub invariant-loop-k : goal.invariant-loop-k
invariant-loop-k l = record {
  so_far : l.first ≡ edges_before l.repeaters l.k;
  behind : l.first ≤ l.edge;
}
