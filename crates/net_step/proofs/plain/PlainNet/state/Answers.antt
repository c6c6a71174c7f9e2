use Rattle.std.proofs.Common.{sym, subst, ◌∙◌}
use Rattle.net_step.specs.KeptNet.{Stands}
use Rattle.net_step.proofs.plain.PlainNet.state.Goals as goal

pub returns : goal.returns
returns c = λ n st.
    let k = subst (Stands n) (sym c.self.view_is) st in
    c.left_state.ensures n k.time (c.deref.ensures.value ∙ k.senders) (c.deref-2.ensures.value ∙ k.repeaters) k.rows k.captures
