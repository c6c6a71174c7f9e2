use Rattle.std.proofs.Common.{◌≡◌, ◌<◌, All, length, get_or, sym, subst, ap, ◌∙◌, arith}
use Rattle.std.specs.Fn.{iterate}
use Rattle.std.proofs.Math.Seq.{map-set_same}
use Rattle.repeater_core.specs.Calm.{IsCalm, silent_step}
use Rattle.repeater_core.specs.Step.{RepeaterDevice}
use Rattle.kept_devices.proofs.ChangedElements.{All-drop-set, All-drop-first}
use Rattle.net_step.proofs.LeapsStand.{map_step}
use Rattle.net_step.proofs.leaps.leap_relays.Goals as goal

pub leap-requires : goal.leap-requires
leap-requires c =
    let d = c.relay-item.result in
    let test = c.loop-relay-test.true in
    All-drop-first (λ (r : RepeaterDevice). IsCalm r c.args.count) c.loop-relay.relays c.loop-relay.relay-index d (omega (arith, test, c.loop-relay.auto.relays)) c.loop-relay.invariant.calm

pub loop-relay-preserved : goal.loop-relay-preserved
loop-relay-preserved c =
    let k = c.loop-relay.relay-index in
    let rs = c.loop-relay.relays in
    let r = c.relay-item.result in
    let new = c.leap.new.self in
    let inv = c.loop-relay.invariant in
    let test = c.loop-relay-test.true in
    let h : k < length rs = omega (arith, test, c.loop-relay.auto.relays) in
    record {
      calm = All-drop-set (λ (x : RepeaterDevice). IsCalm x c.args.count) rs k new inv.calm;
      states = map_step (iterate silent_step c.args.count) rs k new r h c.leap.ensures.state ∙ inv.states;
      ports = map-set_same (λ (x : RepeaterDevice). length x.guards) rs k new r c.leap.ensures.ports ∙ inv.ports;
    }
