use Rattle.std.proofs.Common.{◌≡◌, ◌+◌, ◌<◌, ℕ, [], get_or, length}
use Rattle.frame_table.specs.Ports.{changes_of}
use Rattle.frame_table.proofs.told.ports_of.Given as goal

abbrev pub invariant-loop-p : goal.invariant-loop-p
invariant-loop-p l = record {
  count : length l.ports ≡ l.p;
  each : (p : ℕ) → p < l.p → get_or l.ports p [] ≡ changes_of (p + 1) l.events;
}
