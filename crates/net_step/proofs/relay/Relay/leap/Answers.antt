use Rattle.std.proofs.Common.{length, sym, ap, ◌∙◌}
use Rattle.repeater_core.specs.Step.{RepeaterDevice}
use Rattle.net_step.proofs.SilentRelays.{same_counts}
use Rattle.net_step.proofs.relay.Relay.leap.Goals as goal

pub invariant_of-self : goal.invariant_of-self
invariant_of-self c =
    let r = c.self.inside.repeater in
    let i = c.self.invariant in
    let is = c.leap.ensures.state in
    let ports = c.leap.ensures.ports in
    (i.0 ∙ sym ports, i.1, ap (λ (x : RepeaterDevice). length x.counts) is ∙ same_counts c.args.count r ∙ i.2 ∙ sym ports)
