use Rattle.std.specs.Prelude.{Some}
use Rattle.worker_gate.proofs.run.run_planned.Given as goal

abbrev pub ghosts-run_boxed : goal.ghosts-run_boxed
ghosts-run_boxed g a = record { plan = Some a.plan.now }
