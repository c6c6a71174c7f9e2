use Rattle.std.proofs.Common.{◌≡◌, List, subst, ◌∙◌, arith}
use Rattle.std.specs.Prelude.{IfOk}
use Rattle.collision_log.specs.declared.row.Row.{Row}
use Rattle.network.specs.Net.{net}
use Rattle.network.specs.Outputs.{half_bits}
use Rattle.network.proofs.RunnablePlans.{runnable_plan}
use Rattle.network.specs.declared.outputs.Taken.{Taken}
use Rattle.net_step.proofs.GoingOn.{at_time, captures_of_plan, rows_of_plan}
use Rattle.net_step.proofs.plain.run_plain.Goals as goal

pub half_bits-requires : goal.half_bits-requires
half_bits-requires c = (runnable_plan c.args.plan.now).short

pub go_to-requires-clause-short : goal.go_to-requires-clause-short
go_to-requires-clause-short c =
    let run = runnable_plan c.args.plan.now in
    let short = run.short in
    let half = c.half_bits.ensures in
    omega (arith, short, half)

pub returns-clause-rows : goal.returns-clause-rows
returns-clause-rows c =
    let plan = c.args.plan.now in
    let k = c.go_to.new.self in
    let st = at_time plan k _ _ (half_bits plan) c.in_ok-whole.ensures.time c.half_bits.ensures (c.in_ok-go_to.ensures.stands (net plan 0) c.in_ok-whole.ensures.stands) in
    subst (λ (rows : List Row). IfOk c.outputs.result (λ o. o.rows ≡ rows)) (rows_of_plan plan k st (c.in_ok-go_to.ensures.time ∙ c.half_bits.ensures)) c.outputs.ensures.rows

pub returns-clause-captures : goal.returns-clause-captures
returns-clause-captures c =
    let plan = c.args.plan.now in
    let k = c.go_to.new.self in
    let st = at_time plan k _ _ (half_bits plan) c.in_ok-whole.ensures.time c.half_bits.ensures (c.in_ok-go_to.ensures.stands (net plan 0) c.in_ok-whole.ensures.stands) in
    subst (λ (captures : List (List Taken)). IfOk c.outputs.result (λ o. o.captures ≡ captures)) (captures_of_plan plan k st) c.outputs.ensures.captures
