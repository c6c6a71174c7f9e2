use Rattle.std.proofs.Common.{◌≡◌, [], length, map, refl, sym, subst, ap, ◌∙◌, rules}
use Rattle.repeater_core.specs.Step.{RepeaterDevice}
use Rattle.network.specs.Net.{new_net}
use Rattle.network.proofs.RunnablePlans.{runnable_plan}
use Rattle.kept_devices.specs.KeptReceivers.{AllHear}
use Rattle.net_step.proofs.GoingOn.{new_delays, new_ports}
use Rattle.net_step.proofs.StandsForNet.{stands_silent, taps_near, taps_on}
use Rattle.net_step.proofs.plain.PlainNet.new.Goals as goal

pub with_devices-requires-clause-ports : goal.with_devices-requires-clause-ports
with_devices-requires-clause-ports c = ap (map (λ (r : RepeaterDevice). length r.guards)) c.in_ok-made.ensures.repeaters ∙ new_ports c.args.plan.now.layout.repeaters

pub returns-clause-stands : goal.returns-clause-stands
returns-clause-stands c =
    let plan = c.args.plan.now in
    let l = plan.layout in
    let made = c.in_ok-made.ensures in
    let w = c.in_ok-whole.ensures in
    let receivers = subst (AllHear (new_net plan).receivers) (sym w.receivers) made.receivers in
    let captures : c.in_ok-no_captures.field-0.items ≡ map (λ s. []) l.stations = search rules in
    stands_silent plan (new_net plan) c.in_ok-whole.whole refl refl refl (taps_near l (runnable_plan plan)) (taps_on l (runnable_plan plan)) (new_delays l.repeaters) w.silent
    w.time (w.senders ∙ made.senders) receivers (w.repeaters ∙ made.repeaters) (w.rows ∙ c.new.ensures) (w.captures ∙ captures)
