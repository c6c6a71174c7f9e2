use Rattle.std.proofs.Common.{List, subst}
use Rattle.std.specs.Prelude.{IfOk}
use Rattle.collision_log.specs.declared.row.Row.{Row}
use Rattle.run_endings.specs.Runs.{IsSummaryOver}
use Rattle.netsim.proofs.demos.summary_of_run.Goals as goal

pub returns : goal.returns
returns g c = subst (λ (rs : List Row). IfOk c.summary_of.result (λ text. IsSummaryOver c.args.plan.now rs text)) c.in_ok-outputs.ensures.rows c.summary_of.ensures
