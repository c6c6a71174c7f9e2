use Rattle.std.proofs.Common.{◌≡◌, ◌<◌, ◌≤◌, get_or, length}
use Rattle.std.specs.Prelude.{ℕ, ◌⊎◌}
use Rattle.layout.specs.declared.lines.PortLine.{PortLine}
use Rattle.part_dealing.proofs.duties.last_segment.Given as goal

-- the last of the segments so far
abbrev pub invariant-loop-port : goal.invariant-loop-port
invariant-loop-port l = record {
  within : l.port-index ≤ length l.ports;
  none_later : (i : ℕ) (d : PortLine) → i < l.port-index → (get_or l.ports i d).segment ≤ l.last;
  one : (l.last ≡ 0) ⊎ ((i : ℕ) × (i < l.port-index) × ((d : PortLine) → (get_or l.ports i d).segment ≡ l.last));
}
