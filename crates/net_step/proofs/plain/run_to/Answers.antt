use Rattle.std.proofs.Common.{◌≡◌, ◌-◌, ℕ, subst, arith}
use Rattle.quiet_state.specs.Resumed.{later_net}
use Rattle.net_step.specs.KeptNet.{Stands}
use Rattle.net_step.proofs.GoingOn.{later_on}
use Rattle.net_step.proofs.plain.run_to.Goals as goal

pub loop-now-init : goal.loop-now-init
loop-now-init c = record {
  from = omega arith;
  within = c.requires.begun;
  time = c.requires.now;
  stands = λ n st. (let none : 0 ≡ c.args.t - c.args.t = omega arith in subst (λ (m : ℕ). Stands (later_net n m) c.args.whole.now) none st);
}

pub advance-requires-clause-before : goal.advance-requires-clause-before
advance-requires-clause-before c = let test = c.loop-now-test.true in let now = c.loop-now.invariant.time in omega (arith, test, now)

pub loop-now-preserved : goal.loop-now-preserved
loop-now-preserved c =
    let from = c.loop-now.invariant.from in
    let now = c.loop-now.invariant.time in
    let later = c.in_ok-now.ensures.later in
    let to = c.in_ok-now.now in
    record {
      from = omega (arith, from, now, later);
      within = c.in_ok-now.ensures.within;
      time = c.in_ok-now.ensures.time;
      stands = λ n st.
          let made = c.in_ok-now.ensures.stands (later_net n (c.loop-now.now - c.args.t)) (c.loop-now.invariant.stands n st) in
          later_on n _ c.args.t c.loop-now.now to from (omega (arith, now, later)) (subst (λ t. Stands (later_net (later_net n (c.loop-now.now - c.args.t)) (to - t)) c.advance.new.self) now made);
    }

pub returns-clause-stands : goal.returns-clause-stands
returns-clause-stands c = λ n st.
    let within = c.loop-now.invariant.within in
    let over = c.loop-now-test.false in
    let end : c.loop-now.now ≡ c.args.until = omega (arith, within, over) in
    subst (λ (u : ℕ). Stands (later_net n (u - c.args.t)) c.loop-now.whole) end (c.loop-now.invariant.stands n st)
