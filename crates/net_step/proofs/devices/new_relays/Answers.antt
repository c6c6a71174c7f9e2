use Rattle.std.proofs.Common.{◌≡◌, length, ap, ◌∙◌, rules}
use Rattle.network.specs.Net.{new_repeater}
use Rattle.repeater_core.specs.Step.{new_state}
use Rattle.net_step.proofs.ResumedDevices.{mapped_more}
use Rattle.net_step.proofs.devices.new_relays.Goals as goal

pub loop-repeater-preserved : goal.loop-repeater-preserved
loop-repeater-preserved c =
    let l = c.repeater-item.result in
    let size : c.len.result ≡ length l.ports = search rules in
    mapped_more new_repeater c.args.repeaters.now c.loop-repeater.repeater-index l _ _ _ c.loop-repeater-test.true c.loop-repeater.invariant c.in_ok-push.ensures.items
    (c.in_ok-new.ensures ∙ ap (λ n. new_state n l.delay) size ∙ ap new_repeater c.repeater-item.is)
