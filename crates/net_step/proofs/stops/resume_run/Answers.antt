use Rattle.std.proofs.Common.{◌≡◌, List, subst, ap, ◌∙◌, arith}
use Rattle.std.specs.Prelude.{IfOk}
use Rattle.collision_log.specs.declared.row.Row.{Row}
use Rattle.network.specs.declared.outputs.Taken.{Taken}
use Rattle.quiet_state.specs.Resumed.{captures_to, net_of, rows_to}
use Rattle.network.proofs.RunnablePlans.{runnable_plan}
use Rattle.net_step.proofs.GoingOn.{captures_are_from, rows_are_from}
use Rattle.net_step.proofs.stops.resume_run.Goals as goal

pub half_bits-half_bits-requires : goal.half_bits-half_bits-requires
half_bits-half_bits-requires c = (runnable_plan c.args.plan.now).short

pub finish-requires-clause-begun : goal.finish-requires-clause-begun
finish-requires-clause-begun c =
    let within = c.requires.within in
    let time = c.in_ok-resume.ensures.time in
    let half_bits = c.half_bits-half_bits.ensures in
    omega (arith, within, time, half_bits)

pub finish-requires-clause-short : goal.finish-requires-clause-short
finish-requires-clause-short c =
    let run = runnable_plan c.args.plan.now in
    let short = run.short in
    let half_bits = c.half_bits-half_bits.ensures in
    omega (arith, short, half_bits)

pub returns-clause-rows : goal.returns-clause-rows
returns-clause-rows c =
    let plan = c.args.plan.now in
    subst (λ (rows : List Row). IfOk c.finish.result (λ o. o.rows ≡ rows)) (ap (λ h. rows_to h (net_of plan c.args.state)) c.half_bits-half_bits.ensures ∙ rows_are_from plan c.args.state) (c.finish.ensures.rows (net_of plan c.args.state) c.in_ok-resume.ensures.stands)

pub returns-clause-captures : goal.returns-clause-captures
returns-clause-captures c =
    let plan = c.args.plan.now in
    subst (λ (captures : List (List Taken)). IfOk c.finish.result (λ o. o.captures ≡ captures)) (ap (λ h. captures_to h (net_of plan c.args.state)) c.half_bits-half_bits.ensures ∙ captures_are_from plan c.args.state) (c.finish.ensures.captures (net_of plan c.args.state) c.in_ok-resume.ensures.stands)
