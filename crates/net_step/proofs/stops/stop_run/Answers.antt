use Rattle.std.proofs.Common.{◌<◌, ◌≤◌, add-one, refl, subst, arith}
use Rattle.network.specs.Net.{net}
use Rattle.network.proofs.RunnablePlans.{runnable_plan}
use Rattle.net_step.proofs.GoingOn.{at_time}
use Rattle.net_step.proofs.StoppedRuns.{first_stop, none_at_end, none_loud}
use Rattle.net_step.proofs.stops.stop_run.Goals as goal

pub half_bits-half_bits-requires : goal.half_bits-half_bits-requires
half_bits-half_bits-requires c = (runnable_plan c.args.plan.now).short

pub go_to-requires-clause-short : goal.go_to-requires-clause-short
go_to-requires-clause-short c =
    let run = runnable_plan c.args.plan.now in
    let short = run.short in
    let half_bits = c.half_bits-half_bits.ensures in
    let least = c.min-begin.ensures in
    omega (arith, short, half_bits, least)

pub loop-t-init : goal.loop-t-init
loop-t-init c =
    let least = c.min-begin.ensures in
    record {
      reached = omega arith;
      time = c.in_ok-go_to.ensures.time;
      stands = at_time c.args.plan.now _ c.min-begin.result _ c.min-begin.result c.in_ok-whole.ensures.time refl (c.in_ok-go_to.ensures.stands (net c.args.plan.now 0) c.in_ok-whole.ensures.stands);
      none = λ u from before quiet. absurd (omega (arith, least, from, before));
    }

pub returns-then-quiet-clause-stopped : goal.returns-then-quiet-clause-stopped
returns-then-quiet-clause-stopped c =
    let plan = c.args.plan.now in
    let n = net plan c.loop-t._t in
    let least = c.min-begin.ensures in
    let test = c.loop-t-test.true in
    let past = c.loop-t.invariant.reached in
    let reached : c.args.from ≤ c.loop-t._t = omega (arith, least, test, past) in
    let within = subst (λ h. c.loop-t._t < h) c.half_bits-half_bits.ensures test in
    first_stop plan c.args.from c.loop-t._t _ (c.in_ok-state.ensures n c.loop-t.invariant.stands) reached within ((c.quiet.ensures n c.loop-t.invariant.stands).0 c.if-quiet.true) c.loop-t.invariant.none

pub step-requires : goal.step-requires
step-requires c =
    let run = runnable_plan c.args.plan.now in
    let short = run.short in
    let half_bits = c.half_bits-half_bits.ensures in
    let now = c.loop-t.invariant.time in
    let before = c.loop-t-test.true in
    omega (arith, short, half_bits, now, before)

pub loop-t-preserved : goal.loop-t-preserved
loop-t-preserved c =
    let plan = c.args.plan.now in
    let stands = c.loop-t.invariant.stands in
    let past = c.loop-t.invariant.reached in
    record {
      reached = omega (arith, past);
      time = omega (arith, c.in_ok-step.ensures.time, c.loop-t.invariant.time);
      stands = rw add-one (c.in_ok-step.ensures.stands _ stands);
      none = none_loud plan c.args.from c.loop-t._t (λ q. let yes = (c.quiet.ensures (net plan c.loop-t._t) stands).1 q in let no = c.if-quiet.false in (cc)) c.loop-t.invariant.none;
    }

pub returns-clause-never : goal.returns-clause-never
returns-clause-never c = λ e.
    let over = c.loop-t-test.false in
    let half_bits = c.half_bits-half_bits.ensures in
    none_at_end c.args.plan.now c.args.from c.loop-t._t (omega (arith, half_bits, over)) c.loop-t.invariant.none
