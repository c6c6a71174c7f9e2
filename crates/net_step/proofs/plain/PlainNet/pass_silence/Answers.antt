use Rattle.std.proofs.Common.{◌≡◌, ◌+◌, ◌-◌, ◌<◌, ℕ, subst, sym, ap, arith}
use Rattle.quiet_state.specs.Resumed.{later_net}
use Rattle.net_step.specs.KeptNet.{KeptNet, Stands}
use Rattle.net_step.proofs.GoingOn.{later_by}
use Rattle.net_step.proofs.plain.PlainNet.pass_silence.Goals as goal

pub leap-requires-clause-calm : goal.leap-requires-clause-calm
leap-requires-clause-calm c = c.calm-count.ensures.calm c.if-count-gt0.true

pub returns-then-count-gt0-clause-stands : goal.returns-then-count-gt0-clause-stands
returns-then-count-gt0-clause-stands c = λ n st.
    later_by n c.leap.new.self c.args.self.now.t c.calm-count.result _ (ap (λ (k : KeptNet). k.t) c.self.view_is) (c.leap.ensures.stands n st)

pub returns-then-count-gt0-clause-silent : goal.returns-then-count-gt0-clause-silent
returns-then-count-gt0-clause-silent c = λ n st i below.
    let now = ap (λ (k : KeptNet). k.t) c.self.view_is in
    c.leap.ensures.silent n st i (omega (arith, below, now))

pub returns-clause-stands : goal.returns-clause-stands
returns-clause-stands c = λ n st.
    let now = ap (λ (k : KeptNet). k.t) c.self.view_is in
    let none : 0 ≡ c.self.inside.t - c.args.self.now.t = omega (arith, now) in
    subst (λ m. Stands (later_net n m) c.args.self.now) none st

pub returns-clause-silent : goal.returns-clause-silent
returns-clause-silent c = λ n st i below.
    let now = ap (λ (k : KeptNet). k.t) c.self.view_is in
    absurd (omega (arith, below, now))
