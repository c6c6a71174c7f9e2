use Rattle.std.proofs.Common.{◌≡◌, ◌+◌, ◌<◌, ◌≤◌, ◌∙◌, length, map, sym, ap, subst, arith}
use Rattle.repeater_core.specs.Limits.{most_calm}
use Rattle.repeater_core.specs.Modes.{activity_from}
use Rattle.repeater_core.specs.Step.{RepeaterDevice, emitted_by}
use Rattle.manchester_line.specs.Line.{is_signal}
use Rattle.repeater_core.specs.Steady.{mode_steady, ports_steady, sent_from, IsSteady, HaveNoEvents, RunsWithin}
use Rattle.repeater_core.proofs.SteadyCount.{fits}
use Rattle.repeater_core.proofs.SteadyMost.{no_more}
use Rattle.repeater_core.proofs.repeater.Repeater.steady.Goals as goal

pub returns : goal.returns
returns c =
    let q = c.self.inside in
    let hears = c.args.hears.now in
    let n = c.min-3.result in
    let r : RepeaterDevice = record { mode = q.mode; guards = q.guards.items; counts = q.counts.items; line = q.line } in
    let l : length hears ≡ length r.guards = c.requires.hears_len ∙ ap (λ (r : RepeaterDevice). length r.guards) (sym c.self.view_is) in
    let mode : c.mode_steady.result ≡ mode_steady r.mode (activity_from 0 r.guards hears) =
    c.mode_steady.ensures ∙ ap (mode_steady r.mode) (c.active_ports-active.ensures ∙ ap (λ gs. activity_from 0 gs hears) c.deref.ensures.value) in
    let ports : c.ports_steady.result ≡ ports_steady r.mode 0 r.counts = c.ports_steady.ensures.steady ∙ ap (ports_steady r.mode 0) c.deref-2.ensures.value in
    let guards = subst (λ gs. HaveNoEvents c.guards_calm.result hears c.front.new.emits gs) c.deref-3.ensures.value c.guards_calm.ensures.calm in
    let some =
    subst (λ gs. c.guards_calm.result < most_calm → ¬ HaveNoEvents (c.guards_calm.result + 1) hears c.front.new.emits gs) c.deref-3.ensures.value c.guards_calm.ensures.greatest in
    let runs = subst RunsWithin c.deref-2.ensures.value c.ports_steady.ensures.within in
    let rows = c.rows_steady.ensures.rows in
    let past =
    subst (λ cs. r.line.delay < c.rows_steady.result → sent_from r.mode 0 cs ≡ map is_signal c.front.new.emits) c.deref-4.ensures.value c.rows_steady.ensures.past in
    let stopped =
    subst (λ cs. r.line.delay ≤ c.rows_steady.result → c.rows_steady.result < most_calm → ¬ (sent_from r.mode 0 cs ≡ map is_signal c.front.new.emits)) c.deref-4.ensures.value
    c.rows_steady.ensures.stopped in
    record {
      few = omega arith;
      steady =
          subst (λ r. IsSteady hears r n) c.self.view_is
          (fits n hears c.front.new.emits r c.self.invariant l c.front.ensures (omega arith) (omega arith)
          (λ i b k d. guards i b k (omega arith)) (λ k b d. rows k (omega arith) d) (λ b. past (omega arith)));
      greatest =
          subst (λ r. n < most_calm → ¬ IsSteady hears r (n + 1)) c.self.view_is
          (no_more n c.mode_steady.result c.ports_steady.result c.guards_calm.result c.rows_steady.result hears c.front.new.emits r c.self.invariant l c.front.ensures runs
          (omega arith) mode ports some c.rows_steady.ensures.greatest stopped);
      emits = c.front.ensures ∙ ap emitted_by c.self.view_is;
    }
