use Rattle.std.proofs.Common.{◌≡◌, List, subst}
use Rattle.std.specs.Prelude.{IfOk}
use Rattle.collision_log.specs.declared.row.Row.{Row}
use Rattle.network.specs.declared.outputs.Taken.{Taken}
use Rattle.net_step.proofs.GoingOn.{rows_at_end, captures_at_end}
use Rattle.net_step.proofs.plain.PlainNet.finish.Goals as goal

pub returns-clause-rows : goal.returns-clause-rows
returns-clause-rows c = λ n st.
    subst (λ (rows : List Row). IfOk c.outputs.result (λ o. o.rows ≡ rows)) (rows_at_end n c.args.self c.go_to.new.self c.args.half_bits st (c.in_ok-go_to.ensures.stands n st) c.in_ok-go_to.ensures.time) c.outputs.ensures.rows

pub returns-clause-captures : goal.returns-clause-captures
returns-clause-captures c = λ n st.
    subst (λ (captures : List (List Taken)). IfOk c.outputs.result (λ o. o.captures ≡ captures)) (captures_at_end n c.args.self c.go_to.new.self c.args.half_bits st (c.in_ok-go_to.ensures.stands n st)) c.outputs.ensures.captures
