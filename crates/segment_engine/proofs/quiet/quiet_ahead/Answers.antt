use Rattle.std.proofs.Common.{◌≡◌, ℕ, ◌+◌, ◌-◌, ◌<◌, ◌≤◌, All, List, length, get_or, sym, subst, ap, arith}
use Rattle.mac_transmit.specs.Sender.{Sender}
use Rattle.tap_lines.specs.TapLines.{AreIdleFrom, TapLine}
use Rattle.segment_engine.specs.declared.apart.Watch.{Watch}
use Rattle.segment_engine.specs.QuietHalfBits.{AreAtRest, IsCalmFor}
use Rattle.segment_engine.proofs.QuietAhead.{quiet_by_senders, quiet_by_watches, times_now, until_now}
use Rattle.segment_engine.proofs.QuietStations.{quiet_for_fewer}
use Rattle.segment_engine.proofs.quiet.quiet_ahead.Goals as goal

pub overflow_sub-result : goal.overflow_sub-result
overflow_sub-result c =
    let a = c.args.state.now in
    c.first_due.ensures.due a.t (omega arith)
    (subst (λ (xs : List Watch). (i : ℕ) (w : Watch) → i < length xs → a.t ≤ (get_or xs i w).until) (sym c.deref-then-state-t.ensures.value) (until_now c.args.of.now a c.requires.goes))

pub returns-then-state-t-clause-quiet : goal.returns-then-state-t-clause-quiet
returns-then-state-t-clause-quiet c = λ n some few.
    let a = c.args.state.now in
    let same = ap length c.deref-then-state-t.ensures.value in
    let silent = subst (λ (xs : List TapLine). AreIdleFrom (a.t - a.far) xs) c.deref.ensures.value
    (subst (λ u. AreIdleFrom u c.deref.result.now) c.saturating_sub.ensures (c.are_idle_from.ensures.idle c.if-not-are_idle_from.false)) in
    quiet_by_watches c.args.of.now a c.requires.goes silent n some
    (subst (λ (xs : List Watch). (i : ℕ) (w : Watch) → i < length xs → a.t + n ≤ (get_or xs i w).until) c.deref-then-state-t.ensures.value
    (λ i w h. let first = c.first_due.ensures.first i w h in omega (arith, first, few, some)))

pub calm_half_bits-requires-clause-times : goal.calm_half_bits-requires-clause-times
calm_half_bits-requires-clause-times c =
    let a = c.args.state.now in
    subst (λ xs. All (λ (s : Sender). s.t ≡ a.t) xs) (sym c.deref-2.ensures.value) (times_now c.args.of.now a a.t c.requires.goes c.if-state-t.false)

pub returns-clause-quiet : goal.returns-clause-quiet
returns-clause-quiet c = λ n some few.
    let a = c.args.state.now in
    let silent = subst (λ (xs : List TapLine). AreIdleFrom (a.t - a.far) xs) c.deref.ensures.value
    (subst (λ u. AreIdleFrom u c.deref.result.now) c.saturating_sub.ensures (c.are_idle_from.ensures.idle c.if-not-are_idle_from.false)) in
    let m = c.calm_half_bits.result in
    let more : 0 < m = omega (arith, some, few) in
    quiet_for_fewer m n a few
    (quiet_by_senders c.args.of.now a c.requires.goes silent m c.if-state-t.false
    (subst (λ xs. All (IsCalmFor m) xs) c.deref-2.ensures.value (c.calm_half_bits.ensures.calm more))
    (subst AreAtRest c.deref-3.ensures.value (c.calm_half_bits.ensures.rest more)))
