use Rattle.std.proofs.Common.{◌≡◌, length, sym, subst, ap, arith}
use Rattle.repeater_core.specs.Step.{RepeaterDevice}
use Rattle.network.specs.Rows.{repeater_bodies, told_bodies}
use Rattle.network.proofs.PortFlags.{step_told}
use Rattle.net_step.proofs.relay.Relay.step.Goals as goal

pub returns-clause-bodies : goal.returns-clause-bodies
returns-clause-bodies c =
    let r = c.self.inside.repeater in
    let ports = length c.step.new.self.guards in
    let same : length c.args.self.now.guards ≡ length r.guards = ap (λ (x : RepeaterDevice). length x.guards) (sym c.self.view_is) in
    let all = c.step.ensures.ports in
    let heard : length c.args.heard.now ≡ ports = omega (arith, c.requires.heard_len, same, all) in
    let emits : length c.step.new.emits ≡ ports = omega (arith, c.requires.emitted_len, same, all, c.step.auto.emits) in
    let decided : length c.step.new.decided ≡ ports = omega (arith, c.requires.decided_len, same, all, c.step.auto.decided) in
    subst (λ (x : RepeaterDevice). told_bodies ports c.step.result ≡ repeater_bodies c.args.heard.now x) c.self.view_is
    (step_told c.args.heard.now c.step.new.emits c.step.new.decided r ports c.step.result heard emits decided (sym all) c.step.ensures.emits c.step.ensures.decided c.step.ensures.clash c.step.ensures.closed c.step.ensures.opened c.step.ensures.halted)
