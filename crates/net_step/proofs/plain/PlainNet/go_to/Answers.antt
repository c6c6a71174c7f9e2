use Rattle.std.proofs.Common.{◌≡◌, ◌-◌, ℕ, subst, ap}
use Rattle.std.specs.Prelude.{OnOk}
use Rattle.quiet_state.specs.Resumed.{later_net}
use Rattle.net_step.specs.KeptNet.{KeptNet, Stands}
use Rattle.net_step.proofs.plain.PlainNet.go_to.Goals as goal

pub returns-clause-stands : goal.returns-clause-stands
returns-clause-stands c = λ n st.
    subst (λ (t : ℕ). OnOk c.run_to.result (Stands (later_net n (c.args.until - t)) c.run_to.new.whole)) (ap (λ (k : KeptNet). k.t) c.self.view_is) (c.run_to.ensures.stands n st)
