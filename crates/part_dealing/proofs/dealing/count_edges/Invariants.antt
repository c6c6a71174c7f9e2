use Rattle.std.proofs.Common.{◌≡◌, ◌≤◌, ◌*◌, length}
use Rattle.net_parts.specs.RepeaterParts.{edges_before}
use Rattle.part_dealing.proofs.dealing.count_edges.Given as goal

-- the edges of the repeaters so far
abbrev pub invariant-loop-repeater : goal.invariant-loop-repeater
invariant-loop-repeater l = record {
  so_far : l.count ≡ edges_before l.repeaters l.repeater-index;
  within : l.repeater-index ≤ length l.repeaters;
  few : l.count ≤ 32 * l.repeater-index;
}
