use Rattle.std.proofs.Common.{◌≡◌, ◌<◌, All, length}
use Rattle.part_dealing.proofs.dealing.owners.Given as goal

-- there are as many as parts, and all are workers
abbrev pub invariant-loop-part : goal.invariant-loop-part
invariant-loop-part l = record {
  long : length l.owners.items ≡ l.parts;
  workers : 0 < l.workers → All (λ w. w < l.workers) l.owners.items;
}
