use Rattle.std.proofs.Common.{◌≡◌, ◌*◌, ◌/◌, ◌≤◌, subst, ◌∙◌, arith}
use Rattle.net_parts.specs.Windows.{lookahead}
use Rattle.repeater_engine.proofs.SilentRuns.{calm_for_fewer, least_of_two, windows_within, part_decides}
use Rattle.repeater_engine.proofs.part.RepeaterPart.calm_windows.Goals as goal

pub returns-clause-silent : goal.returns-clause-silent
returns-clause-silent c = λ n few.
    let s = c.args.self.now in
    let L = lookahead s.plan.value.layout in
    let q = c.calm.result in
    let long : c.from.result ≡ L = c.from.ensures ∙ s.is_part.lead_is in
    let most : c.min.result ≤ q / L = subst (λ l. c.min.result ≤ q / l) long (least_of_two c.min.result (q / c.from.result) c.args.most c.min.ensures) in
    let within : c.min.result * L ≤ q = windows_within c.min.result q L most in
    part_decides s.plan.value s.part s.repeater s.window s.is_part.number s.is_part.within c.requires s.engine.state s.stands.state n (calm_for_fewer n q s.engine.state.repeater (omega (arith, few, within)) c.calm.ensures)
