use Rattle.std.proofs.Common.{◌≡◌, take}
use Rattle.frame_table.proofs.routes.entries_after.Given as goal

abbrev pub invariant-loop-entry : goal.invariant-loop-entry
invariant-loop-entry l = l.entries ≡ take l.entry-index l.from.entries
