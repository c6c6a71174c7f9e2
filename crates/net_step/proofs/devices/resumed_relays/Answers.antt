use Rattle.std.proofs.Common.{◌≡◌, ◌+◌, ◌<◌, length, arith, rules}
use Rattle.net_step.proofs.ResumedDevices.{ports_left, relays_more}
use Rattle.net_step.proofs.devices.resumed_relays.Goals as goal

pub loop-repeater-preserved : goal.loop-repeater-preserved
loop-repeater-preserved c =
    let ls = c.args.repeaters.now in
    let k = c.loop-repeater.repeater-index in
    let l = c.repeater-item.result in
    let h : k < length ls = omega (arith, c.loop-repeater-test.true) in
    let is = c.repeater-item.is in
    let size : c.len.result ≡ length l.ports = search rules in
    let n = c.loop-repeater.from + c.len.result in
    record {
      from = omega (arith, ports_left ls k l h is, size, c.loop-repeater.invariant.from);
      relays = relays_more ls c.args.guards.now c.args.rests.now c.loop-repeater.from k n _ c.loop-repeater.relays.items _ l h is (omega (arith, size)) c.loop-repeater.invariant.relays (search rules);
    }
