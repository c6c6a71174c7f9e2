use Rattle.std.proofs.Common.{◌≡◌, ◌+◌, ◌-◌, ◌<◌, ℕ, suc, subst, sym, ap, ◌∙◌, arith}
use Rattle.network.specs.Net.{Net, next}
use Rattle.quiet_state.specs.Resumed.{later_net}
use Rattle.net_step.specs.CalmNets.{IsCalmNet}
use Rattle.net_step.specs.KeptNet.{KeptNet, Stands}
use Rattle.net_step.proofs.GoingOn.{later_by}
use Rattle.net_step.proofs.plain.PlainNet.advance.Goals as goal

pub leap-requires-clause-calm : goal.leap-requires-clause-calm
leap-requires-clause-calm c = c.calm-count.ensures.calm c.if-count-gt0.true

pub returns-then-count-gt0-clause-stands : goal.returns-then-count-gt0-clause-stands
returns-then-count-gt0-clause-stands c = λ n st.
    later_by n c.leap.new.self c.args.self.now.t c.calm-count.result _ (ap (λ (k : KeptNet). k.t) c.self.view_is) (c.leap.ensures.stands n st)

pub returns-clause-stands : goal.returns-clause-stands
returns-clause-stands c = λ n st.
    later_by n c.step.new.self c.args.self.now.t 1 _ (ap (λ (k : KeptNet). k.t) c.self.view_is) (c.in_ok-step.ensures.stands n st)
