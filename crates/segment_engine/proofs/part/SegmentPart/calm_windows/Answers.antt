use Rattle.std.proofs.Common.{◌*◌, ◌/◌, ◌≤◌, inl, inr, subst, ◌∙◌, arith, mul-le-mul_right}
use Rattle.std.proofs.lemmas.Bool.{cases_lt}
use Rattle.net_parts.specs.Windows.{lookahead}
use Rattle.net_parts.proofs.WindowTimes.{some_lead}
use Rattle.segment_engine.proofs.SilentParts.{begins_early, goes_now, least_of_two, windows_within, part_hears}
use Rattle.segment_engine.proofs.part.SegmentPart.calm_windows.Goals as goal

pub quiet_ahead-requires-clause-goes : goal.quiet_ahead-requires-clause-goes
quiet_ahead-requires-clause-goes c =
    let x = c.args.self.now in
    goes_now x.segment x.window x.state x.stands x.at_time c.requires

pub quiet_ahead-requires-clause-in_time : goal.quiet_ahead-requires-clause-in_time
quiet_ahead-requires-clause-in_time c =
    let x = c.args.self.now in
    begins_early x.segment x.window x.state x.stands x.at_time c.requires

pub returns-clause-quiet : goal.returns-clause-quiet
returns-clause-quiet c = λ n some few.
    let x = c.args.self.now in
    let L = lookahead x.segment.plan.value.layout in
    let q = c.quiet_ahead.result in
    let lead = some_lead x.segment.plan.value in
    let most : c.min.result ≤ q / L = subst (λ l. c.min.result ≤ q / l) (c.from-2.ensures ∙ x.segment.window_length) (least_of_two c.min.result (q / c.from-2.result) c.args.most c.min.ensures) in
    let all : c.min.result * L ≤ q = windows_within c.min.result q L most in
    let these : n * L ≤ c.min.result * L = mul-le-mul_right L few in
    let one : 1 * L ≤ n * L = mul-le-mul_right L (omega (arith, some)) in
    c.quiet_ahead.ensures.quiet (n * L) (omega (arith, one, lead)) (omega (arith, all, these))

pub returns-clause-silent : goal.returns-clause-silent
returns-clause-silent c = λ n few come.
    let x = c.args.self.now in
    let plan = x.segment.plan.value in
    let L = lookahead plan.layout in
    let q = c.quiet_ahead.result in
    let most : c.min.result ≤ q / L = subst (λ l. c.min.result ≤ q / l) (c.from-2.ensures ∙ x.segment.window_length) (least_of_two c.min.result (q / c.from-2.result) c.args.most c.min.ensures) in
    let all : c.min.result * L ≤ q = windows_within c.min.result q L most in
    elim (cases_lt 0 n) [
      | inl some ↦
          part_hears x.segment x.window x.state x.stands x.at_time c.requires n
          (c.quiet_ahead.ensures.quiet n some (omega (arith, few, all))) come
      | inr none ↦ λ p j h l. absurd (omega (arith, none, l))
    ]
