use Rattle.std.proofs.Common.{◌≡◌, drop}
use Rattle.frame_table.specs.Unplanned.{first_unplanned, unplanned_from}
use Rattle.frame_table.proofs.unplanned.find_unplanned.Given as goal

abbrev pub invariant-loop-line : goal.invariant-loop-line
invariant-loop-line l = unplanned_from l.plan l.number (drop l.line-index l.lines) ≡ first_unplanned l.plan l.lines
