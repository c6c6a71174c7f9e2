use Rattle.std.proofs.Common.{◌≡◌, ◌*◌, subst, arith, rules}
use Rattle.std.proofs.lemmas.Bool.{false≢true}
use Rattle.net_parts.specs.Windows.{time}
use Rattle.segment_engine.specs.RunningStates.{IsRunningAt}
use Rattle.segment_engine.proofs.KeptParts.{kept_of}
use Rattle.segment_engine.proofs.part.SegmentPart.paced.Goals as goal

pub invariant_of-result : goal.invariant_of-result
invariant_of-result c =
    let g = c.in_ok-of.of in
    let state = c.in_ok-state.state in
    let plan = g.plan.value in
    let running : IsRunningAt g 0 state = c.in_ok-state.ensures.at in
    let first : 0 ≡ 0 * g.lookahead = omega arith in
    let begun = c.in_ok-state.ensures.time in
    let early = running.goes.begun in
    let begins : state.t ≡ time plan 0 = omega (arith, begun) in
    record {
      stands = subst (λ f. IsRunningAt g f state) first running;
      at_time = begins;
      octets = search rules;
      last = λ h. omega (arith, begun, early);
      room = λ h. absurd (false≢true h);
      kept = kept_of g 0 0 state begins running;
    }
