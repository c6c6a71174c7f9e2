-- Each window begins before the run ends.
use Rattle.std.proofs.Common.{ℕ, ◌*◌, ◌<◌, ◌≤◌, arith}
use Rattle.load_plan.specs.declared.plan.Plan.{Plan}
use Rattle.network.specs.Outputs.{half_bits}
use Rattle.network.proofs.RunnablePlans.{runnable_plan}
use Rattle.net_parts.specs.Windows.{lookahead, windows}
use Rattle.net_parts.proofs.LookaheadLeads.{some_lookahead}
use Rattle.net_parts.proofs.WindowCuts.{begins_before}

pub some_lead : (plan : Plan) → 1 ≤ lookahead plan.layout
some_lead plan = some_lookahead plan.layout (runnable_plan plan).some_delay

pub begins_in_run : (plan : Plan) (w : ℕ) → w < windows plan → w * lookahead plan.layout < half_bits plan
begins_in_run plan w below = begins_before (half_bits plan) (lookahead plan.layout) w (let s = some_lead plan in omega (arith, s)) below
