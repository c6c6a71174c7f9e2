use Rattle.std.proofs.Common.{◌≡◌, drop}
use Rattle.std.specs.List.{list_all}
use Rattle.frame_table.specs.Told.{is_entered_by}
use Rattle.frame_table.proofs.reach.are_entered.Given as goal

abbrev pub invariant-loop-entry : goal.invariant-loop-entry
invariant-loop-entry l = list_all (is_entered_by l.told l.t) (drop l.entry-index l.entries) ≡ list_all (is_entered_by l.told l.t) l.entries
