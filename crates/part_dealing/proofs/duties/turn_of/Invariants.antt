use Rattle.std.proofs.Common.{◌≤◌, ◌<◌, get_or}
use Rattle.std.specs.Prelude.{ℕ}
use Rattle.part_dealing.specs.declared.duties.Duty.{Duty}
use Rattle.part_dealing.proofs.duties.turn_of.Given as goal

-- none so far has a later segment
abbrev pub invariant-loop-i : goal.invariant-loop-i
invariant-loop-i l = (k : ℕ) (d : Duty) → k < l.i → (get_or l.turns k d).last ≤ l.last
