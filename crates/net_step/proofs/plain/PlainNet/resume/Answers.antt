use Rattle.std.proofs.Common.{length, map, refl, sym, subst, ap, ◌∙◌}
use Rattle.repeater_core.specs.Step.{RepeaterDevice}
use Rattle.network.proofs.RunnablePlans.{runnable_plan}
use Rattle.quiet_state.specs.Resumed.{net_of}
use Rattle.kept_devices.specs.KeptReceivers.{AllHear}
use Rattle.net_step.proofs.GoingOn.{resumed_ports, resumed_delays, many_delays}
use Rattle.net_step.proofs.StandsForNet.{stands_silent, taps_near, taps_on}
use Rattle.net_step.proofs.plain.PlainNet.resume.Goals as goal

pub with_devices-requires-clause-captures : goal.with_devices-requires-clause-captures
with_devices-requires-clause-captures c = ap length c.in_ok-resumed_captures.ensures ∙ c.requires.captures_many

pub with_devices-requires-clause-ports : goal.with_devices-requires-clause-ports
with_devices-requires-clause-ports c =
    let l = c.args.plan.now.layout in
    let s = c.args.state in
    ap (map (λ (r : RepeaterDevice). length r.guards)) c.in_ok-made.ensures.repeaters ∙ resumed_ports l.repeaters s.guards s.rests (c.requires.guards_many ∙ many_delays l.repeaters)

pub returns-clause-stands : goal.returns-clause-stands
returns-clause-stands c =
    let plan = c.args.plan.now in
    let l = plan.layout in
    let s = c.args.state in
    let n = net_of plan s in
    let made = c.in_ok-made.ensures in
    let w = c.in_ok-whole.ensures in
    let receivers = subst (AllHear n.receivers) (sym w.receivers) made.receivers in
    stands_silent plan n c.in_ok-whole.whole refl refl refl (taps_near l (runnable_plan plan)) (taps_on l (runnable_plan plan)) (resumed_delays l.repeaters s.guards s.rests (c.requires.guards_many ∙ many_delays l.repeaters)) w.silent
    w.time (w.senders ∙ made.senders) receivers (w.repeaters ∙ made.repeaters) w.rows (w.captures ∙ c.in_ok-resumed_captures.ensures)
