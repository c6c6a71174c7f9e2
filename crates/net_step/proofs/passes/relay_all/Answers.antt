use Rattle.std.proofs.Common.{◌≡◌, ◌+◌, ◌-◌, ◌<◌, ◌≤◌, length, length-set, length-take-le, length-drop, take, drop, sym, ap, ◌∙◌, arith}
use Rattle.std.proofs.lemmas.List.{drop-set-lt, take_more_set}
use Rattle.std.proofs.Math.Seq.{map-set_same}
use Rattle.std.proofs.lemmas.Grind.{common_steps}
use Rattle.repeater_core.specs.Step.{RepeaterDevice, after, decided_by, emitted_by}
use Rattle.network.specs.Rows.{repeater_bodies, told_bodies}
use Rattle.net_step.specs.KeptNet.{all_told}
use Rattle.net_step.proofs.RepeatersInARow.{ports_more, each_step, lines_step, decided_step, all_told-more}
use Rattle.net_step.proofs.passes.relay_all.Goals as goal

pub loop-k-preserved : goal.loop-k-preserved
loop-k-preserved c =
    let k = c.loop-k.k in
    let rs = c.loop-k.relays in
    let r = c.index-relays-k.result in
    let new = c.step.new.self in
    let from = c.loop-k.from in
    let is = c.index-relays-k.is in
    let h : k < length rs = omega arith in
    let count : c.ports.result ≡ length r.guards = c.ports.ensures.count ∙ ap (λ (x : RepeaterDevice). length x.guards) (sym is) in
    let to : from + c.ports.result ≡ from + length r.guards = omega (arith, count) in
    let fits : from ≤ length c.loop-k.emitted = omega (arith, c.loop-k.invariant.from, c.loop-k.invariant.len) in
    let room : from + c.ports.result ≤ length c.loop-k.emitted = omega (arith, ports_more rs k r h is, count, c.loop-k.invariant.from, c.loop-k.invariant.len) in
    let n = from + c.ports.result - from in
    let emits : length c.step.new.emitted ≡ c.ports.result = omega (arith, c.step.auto.emitted, length-take-le n (drop from c.loop-k.emitted) (omega (arith, room, length-drop from c.loop-k.emitted))) in
    let fits_too : from ≤ length c.loop-k.decided = omega (arith, fits, c.loop-k.invariant.len, c.loop-k.invariant.len_decided) in
    let room_too : from + c.ports.result ≤ length c.loop-k.decided = omega (arith, room, c.loop-k.invariant.len, c.loop-k.invariant.len_decided) in
    let decides : length c.step.new.decided ≡ c.ports.result = omega (arith, c.step.auto.decided, length-take-le n (drop from c.loop-k.decided) (omega (arith, room_too, length-drop from c.loop-k.decided))) in
    record {
      from = rw (drop-set-lt (k + 1) rs k new (omega arith)) (omega (arith, ports_more rs k r h is, count, c.loop-k.invariant.from));
      ports = map-set_same (λ (x : RepeaterDevice). length x.guards) rs k new r c.step.ensures.ports ∙ c.loop-k.invariant.ports;
      len = grind (arith, common_steps, c.loop-k.invariant.len);
      len_decided = grind (arith, common_steps, c.loop-k.invariant.len_decided);
      len_events = length-set c.loop-k.events k c.step.result ∙ c.loop-k.invariant.len_events ∙ sym (length-set rs k new);
      states = each_step after c.args.heard.now rs (take k rs) _ new from k _ r new h is to (take_more_set rs k new h) (c.step.ensures.state ∙ ap (after _) (sym is)) ∙ c.loop-k.invariant.states;
      bodies = each_step repeater_bodies c.args.heard.now rs (all_told (take k rs) (take k c.loop-k.events)) _ (told_bodies (length new.guards) c.step.result) from k _ r new h is to (all_told-more rs c.loop-k.events k new c.step.result h (omega (arith, c.loop-k.invariant.len_events))) (c.step.ensures.bodies ∙ ap (repeater_bodies _) (sym is)) ∙ c.loop-k.invariant.bodies;
      emitted = lines_step emitted_by c.loop-k.emitted c.step.new.emitted rs from k _ r new h is (omega (arith, emits)) fits (c.step.ensures.emitted ∙ ap emitted_by (sym is)) ∙ c.loop-k.invariant.emitted;
      decided = decided_step decided_by c.args.heard.now c.loop-k.decided c.step.new.decided rs from k _ r new h is to (decides ∙ count) fits_too (c.step.ensures.decided ∙ ap (decided_by _) (sym is)) ∙ c.loop-k.invariant.decided;
    }
