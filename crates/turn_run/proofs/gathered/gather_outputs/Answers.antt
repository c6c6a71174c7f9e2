use Rattle.std.proofs.Common.{sym, subst}
use Rattle.collision_log.specs.Merged.{KeepsOwnOrder}
use Rattle.network.specs.Outputs.{rows}
use Rattle.net_parts.proofs.GatheredRows.{rows_are_gathered}
use Rattle.turn_run.proofs.gathered.gather_outputs.Goals as goal

pub returns-clause-rows : goal.returns-clause-rows
returns-clause-rows c =
    let plan = c.args.plan.now in
    let g = rows_are_gathered plan in
    sym (c.in_ok-merge.ensures.only (rows plan) g.order (subst (λ lists. KeepsOwnOrder lists (rows plan)) (sym c.requires.logs) g.own))
