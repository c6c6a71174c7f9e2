use Rattle.std.proofs.Common.{◌≡◌, ◌++◌, ◌<◌, List, [], ◌∷◌, length, get_or, sym, ap, ◌∙◌, arith}
use Rattle.std.proofs.lemmas.List.FromFn.{map-range_with_len_more}
use Rattle.network.proofs.RunnablePlans.{runnable_plan}
use Rattle.layout.specs.declared.lines.RepeaterLine.{RepeaterLine}
use Rattle.layout.specs.declared.ways.Attachment.{Attachment}
use Rattle.layout.specs.declared.ways.Attachment.TheVariants.{Station}
use Rattle.tap_signals.proofs.TapsOfLayout.{all_stations, no_more_ports, ports_more}
use Rattle.tap_signals.proofs.taps.taps_in_order.Goals as goal

pub loop-station-preserved : goal.loop-station-preserved
loop-station-preserved c =
    let station = c.loop-station.station in
    let one : c.push.new.self.items ≡ c.loop-station.taps.items ++ Station station ∷ [] = c.in_ok-push.ensures.items in
    one ∙ ap (λ (ts : List Attachment). ts ++ Station station ∷ []) c.loop-station.invariant
    ∙ sym (map-range_with_len_more Station 0 station station (omega arith))

pub loop-repeater-init : goal.loop-repeater-init
loop-repeater-init c =
    all_stations c.args.plan.now.layout c.loop-station.station c.as_slice-repeaters.result.now c.loop-station.taps.items
    (let n = c.len-stations.ensures in omega (arith, n, c.loop-station-test.false, c.loop-station.auto.station-end)) c.as_slice-repeaters.ensures c.loop-station.invariant

pub overflow_cast-repeater : goal.overflow_cast-repeater
overflow_cast-repeater c =
    let same = ap length c.as_slice-repeaters.ensures in
    omega (arith, c.loop-repeater-test.true, same, (runnable_plan c.args.plan.now).few_repeaters)

pub add_ports-requires : goal.add_ports-requires
add_ports-requires c =
    let rs = c.as_slice-repeaters.result.now in
    let d = c.index-repeaters-repeater.result in
    let r = c.loop-repeater.repeater in
    let same = ap length c.as_slice-repeaters.ensures in
    let within : r < length c.args.plan.now.layout.repeaters = omega (arith, c.loop-repeater-test.true, same) in
    let few = (runnable_plan c.args.plan.now).few_ports r d within in
    let ports = c.len.ensures ∙ ap (λ (xs : List RepeaterLine). length (get_or xs r d).ports) c.as_slice-repeaters.ensures in
    omega (arith, few, ports)

pub loop-repeater-preserved : goal.loop-repeater-preserved
loop-repeater-preserved c =
    ports_more c.args.plan.now.layout c.as_slice-repeaters.result.now c.loop-repeater.repeater c.index-repeaters-repeater.result c.loop-repeater.taps.items _ _
    c.loop-repeater-test.true c.len.ensures c.in_ok-add_ports.ensures c.loop-repeater.invariant

pub returns : goal.returns
returns c = no_more_ports c.args.plan.now.layout c.as_slice-repeaters.result.now c.loop-repeater.repeater c.loop-repeater.taps.items (omega (arith, c.loop-repeater-test.false)) c.loop-repeater.invariant
