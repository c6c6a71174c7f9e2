use Rattle.std.specs.Prelude.{Some}
use Rattle.worker_gate.specs.PlannedShares.{IsPlannedShare}
use Rattle.part_tests.proofs.orders.run.Given as goal

abbrev pub invariant-loop-window : goal.invariant-loop-window
invariant-loop-window g l = IsPlannedShare (Some l.plan) l.segments × IsPlannedShare (Some l.plan) l.repeater
