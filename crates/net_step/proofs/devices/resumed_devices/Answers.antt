use Rattle.std.proofs.Common.{◌≡◌, length, sum_by, ◌∙◌, rules}
use Rattle.layout.specs.declared.lines.RepeaterLine.{RepeaterLine}
use Rattle.net_step.proofs.GoingOn.{many_delays}
use Rattle.net_step.proofs.devices.resumed_devices.Goals as goal

pub resumed_relays-requires-clause-guards : goal.resumed_relays-requires-clause-guards
resumed_relays-requires-clause-guards c =
    let many : length c.args.state.now.guards ≡ sum_by (λ (r : RepeaterLine). length r.ports) c.args.plan.now.layout.repeaters = c.requires.guards_many ∙ many_delays c.args.plan.now.layout.repeaters in
    search rules
