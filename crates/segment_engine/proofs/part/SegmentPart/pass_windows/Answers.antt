use Rattle.std.proofs.Common.{◌≡◌, ◌+◌, ◌*◌, ◌≤◌, sym, subst, ap, ap₂, ◌∙◌, arith}
use Rattle.std.proofs.lemmas.Bool.{false≢true}
use Rattle.mac_parameters.specs.Parameters.{most_half_bits}
use Rattle.net_parts.specs.Windows.{lookahead, time}
use Rattle.net_parts.specs.SegmentParts.{wiring}
use Rattle.segment_engine.specs.QuietHalfBits.{ComeInIdle, IsQuietFor}
use Rattle.segment_engine.specs.RunningStates.{IsRunningAt}
use Rattle.segment_engine.proofs.HandedOut.{few_windows}
use Rattle.segment_engine.proofs.KeptParts.{kept_of}
use Rattle.segment_engine.proofs.SilentParts.{starts, running_now, come_now, ends, ends_early}
use Rattle.segment_engine.proofs.part.SegmentPart.pass_windows.Goals as goal

pub pass-requires-clause-at : goal.pass-requires-clause-at
pass-requires-clause-at c =
    let x = c.args.self.now in
    let last = c.requires.within in
    running_now x.segment x.window x.state x.stands x.at_time (omega (arith, last))

pub pass-requires-clause-in_time : goal.pass-requires-clause-in_time
pass-requires-clause-in_time c =
    let x = c.args.self.now in
    let last = c.requires.within in
    let long : c.from.result ≡ lookahead x.segment.plan.value.layout = c.from.ensures ∙ x.segment.window_length in
    subst (λ l. x.state.t + c.args.count * l ≤ most_half_bits) (sym long)
    (ends_early x.segment x.window x.state x.stands x.at_time (omega (arith, last)) c.args.count last)

pub pass-requires-clause-quiet : goal.pass-requires-clause-quiet
pass-requires-clause-quiet c =
    let x = c.args.self.now in
    let long : c.from.result ≡ lookahead x.segment.plan.value.layout = c.from.ensures ∙ x.segment.window_length in
    subst (λ l. IsQuietFor (c.args.count * l) x.state) (sym long) c.requires.quiet

pub pass-requires-clause-silent : goal.pass-requires-clause-silent
pass-requires-clause-silent c =
    let x = c.args.self.now in
    let last = c.requires.within in
    let plan = x.segment.plan.value in
    let long : c.from.result ≡ lookahead plan.layout = c.from.ensures ∙ x.segment.window_length in
    subst (λ l. ComeInIdle plan (wiring plan.layout x.segment.number).edges x.state.t (c.args.count * l)) (sym long)
    (come_now x.segment x.window x.state x.stands x.at_time (omega (arith, last)) (c.args.count * lookahead plan.layout) c.requires.silent)

pub overflow_add-self : goal.overflow_add-self
overflow_add-self c =
    let few = few_windows c.args.self.now.segment.plan.value (c.args.self.now.window + c.args.count) c.requires.within in
    omega (arith, few)

pub invariant_of-self : goal.invariant_of-self
invariant_of-self c =
    let x = c.args.self.now in
    let g = x.segment in
    let plan = g.plan.value in
    let wd = x.window in
    let n = c.args.count in
    let last = c.requires.within in
    let windows = g.window_count in
    let state = c.pass.new.state in
    let first : x.state.t ≡ wd * lookahead plan.layout = starts g wd x.state x.stands x.at_time (omega (arith, last)) in
    let both : wd * g.lookahead + n * g.lookahead ≡ (wd + n) * g.lookahead = omega arith in
    let front : state.t ≡ (wd + n) * g.lookahead = c.pass.ensures.time ∙ ap₂ ◌+◌ (first ∙ ap (λ l. wd * l) (sym g.window_length)) (ap (λ l. n * l) c.from.ensures) ∙ both in
    let time_is : state.t ≡ time plan (wd + n) =
    c.pass.ensures.time ∙ ap (λ l. x.state.t + n * l) (c.from.ensures ∙ g.window_length) ∙ ends g wd x.state x.stands x.at_time (omega (arith, last)) n last in
    let at : IsRunningAt g ((wd + n) * g.lookahead) state = subst (λ f. IsRunningAt g f state) front c.pass.ensures.at in
    record {
      stands = at;
      at_time = time_is;
      octets = x.octets;
      last = λ h. c.pass.ensures.from;
      room = λ h. absurd (false≢true h);
      kept = kept_of g (wd + n) ((wd + n) * g.lookahead) state time_is at;
    }
