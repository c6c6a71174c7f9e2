use Rattle.std.proofs.Common.{◌*◌, ◌≤◌, get_or, mul-le-mul_right}
use Rattle.net_parts.specs.Parts.{edges_of_part}
use Rattle.net_parts.specs.Windows.{lookahead}
use Rattle.turn_run.proofs.SilentNetwork.{idle_for_fewer}
use Rattle.turn_run.proofs.quiet.quiet_everywhere.Goals as goal

pub returns-clause-silent_segments : goal.returns-clause-silent_segments
returns-clause-silent_segments g c = λ some k d h.
    let s = get_or c.args.segments.now k d in
    let plan = g.S.Part.plan s in
    let L = lookahead plan.layout in
    idle_for_fewer (g.S.PartKind.comes plan) (g.S.PartKind.goes plan) (edges_of_part plan (g.S.Part.number s)) (g.S.Part.at s * L) (c.calm_of-calm.result * L) (c.calm_of.result * L) (mul-le-mul_right L c.calm_of.ensures.within) (c.calm_of-calm.ensures.silent k d h)
