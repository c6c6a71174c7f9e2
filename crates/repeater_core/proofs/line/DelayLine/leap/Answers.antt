use Rattle.std.proofs.Common.{◌≤◌, ◌<◌, ◌+◌, ◌%◌, ◌*◌, ◌∙◌, sym, ap, subst, drop, arith}
use Rattle.std.specs.Fn.{iterate}
use Rattle.std.proofs.Math.Nat.{mod-lt}
use Rattle.repeater_core.specs.Delayed.{Delayed, rotated}
use Rattle.repeater_core.specs.SilentParts.{line_calm, silent_line}
use Rattle.repeater_core.proofs.AlikeNewest.{known_newest}
use Rattle.repeater_core.proofs.RingLeaps.{AllIdle, ring, rotated_len, IsRound, ring_leaps, ring_filled}
use Rattle.repeater_core.proofs.line.DelayLine.leap.Goals as goal

pub overflow_add-self : goal.overflow_add-self
overflow_add-self c =
    let few = c.requires.few in
    let below = c.self.invariant.turn_below in
    let most = c.self.invariant.delay_at_most in omega arith

pub invariant_of-self : goal.invariant_of-self
invariant_of-self c =
    let q = c.self.inside in
    let h = c.self.invariant in
    let below = h.turn_below in
    let round : IsRound q.ports q.delay q.turn q.slots.items = record {
      some_port = subst (λ (d : Delayed). 0 < d.ports) (sym c.self.view_is) c.requires.some_port;
      turn_below = below;
      slots_len = h.slots_len;
      delay_at_most = h.delay_at_most;
    } in
    let calm : c.args.n ≤ line_calm (ring q.ports q.delay q.turn q.slots.items) = subst (λ d. c.args.n ≤ line_calm d) (sym c.self.view_is) c.requires.calm in
    let less = c.saturating_sub-self-inside.ensures in
    let most = h.filled_at_most in
    let turn = (q.turn + c.args.n) % q.delay in
    let rest = subst (λ f. AllIdle (drop (f * q.ports) (rotated (turn * q.ports) q.slots.items))) (sym less)
    (ring_filled c.args.n q.filled q.ports q.delay q.turn q.slots.items round calm h.rest_idle) in
    let known = known_newest q.ports q.delay c.saturating_sub-self-inside.result c.alike_where-self-inside.result (rotated (turn * q.ports) q.slots.items)
    (rotated_len (turn * q.ports) q.slots.items ∙ h.slots_len) rest c.alike_where-self-inside.ensures in
    record {
      turn_below = mod-lt (q.turn + c.args.n) (let some : 0 < q.delay = omega arith in some);
      slots_len = h.slots_len;
      delay_at_most = h.delay_at_most;
      filled_at_most = omega arith;
      rest_idle = rest;
      alike_at_most = known.0;
      newest_alike = known.1;
    }

pub returns : goal.returns
returns c =
    let q = c.self.inside in
    let h = c.self.invariant in
    let round : IsRound q.ports q.delay q.turn q.slots.items = record {
      some_port = subst (λ (d : Delayed). 0 < d.ports) (sym c.self.view_is) c.requires.some_port;
      turn_below = h.turn_below;
      slots_len = h.slots_len;
      delay_at_most = h.delay_at_most;
    } in
    let calm : c.args.n ≤ line_calm (ring q.ports q.delay q.turn q.slots.items) = subst (λ d. c.args.n ≤ line_calm d) (sym c.self.view_is) c.requires.calm in
    sym (ap (iterate silent_line c.args.n) (sym c.self.view_is) ∙ ring_leaps c.args.n q.ports q.delay q.turn q.slots.items round calm)
