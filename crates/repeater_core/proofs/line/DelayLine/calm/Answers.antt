use Rattle.std.proofs.Common.{◌≡◌, ◌*◌, ◌∙◌, ap, sym, subst, drop, arith}
use Rattle.repeater_core.specs.Delayed.{rotated}
use Rattle.repeater_core.specs.SilentParts.{line_calm}
use Rattle.repeater_core.proofs.DelayLineCalm.{calm_all, front_of_all}
use Rattle.repeater_core.proofs.RingLeaps.{AllIdle, ring}
use Rattle.repeater_core.proofs.line.DelayLine.calm.Goals as goal

pub returns-then-self-eq0 : goal.returns-then-self-eq0
returns-then-self-eq0 c =
    let q = c.self.inside in
    let zero : 0 * q.ports ≡ 0 = omega arith in
    let none : q.filled * q.ports ≡ 0 = ap (λ k. k * q.ports) c.if-self-eq0.true ∙ zero in
    let rows = rotated (q.turn * q.ports) q.slots.items in
    let idle : AllIdle rows = subst (λ k. AllIdle (drop k rows)) none c.self.invariant.rest_idle in
    sym (ap line_calm (sym c.self.view_is) ∙ calm_all (ring q.ports q.delay q.turn q.slots.items) (front_of_all rows idle))
