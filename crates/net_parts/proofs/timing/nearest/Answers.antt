use Rattle.std.proofs.Common.{◌≡◌, ◌+◌, ◌<◌, ◌≤◌, ◌++◌, min, drop, map, length, get_or, sym, ap, ap₂, ◌∙◌, arith}
use Rattle.std.specs.List.{flat_map}
use Rattle.std.proofs.lemmas.List.{length-map, at_drop_more}
use Rattle.layout.specs.declared.lines.RepeaterLine.{RepeaterLine}
use Rattle.layout.specs.Taps.{tap_of}
use Rattle.net_parts.specs.Windows.{nearest}
use Rattle.net_parts.proofs.NearestTaps.{nearest_two}
use Rattle.net_parts.proofs.timing.nearest.Goals as goal
use Rattle.mac_parameters.specs.Parameters.{most_ports}

pub loop-repeater-init : goal.loop-repeater-init
loop-repeater-init c =
    let l = c.args.layout.now in
    let two = nearest_two c.args.tap c.args.here 0 (map tap_of l.stations) (flat_map (λ (r : RepeaterLine). r.ports) l.repeaters) in
    let many = length-map l.stations tap_of in
    let first = c.len-first.ensures in
    let z : 0 + length (map tap_of l.stations) ≡ c.len-first.result = omega (arith, many, first) in
    let rest = ap₂ (λ j rs. nearest c.args.tap c.args.here j (flat_map (λ (r : RepeaterLine). r.ports) rs)) z (sym c.as_slice-repeaters.ensures) in
    let station = c.nearest_station-least.ensures.way ∙ ap (λ ss. nearest c.args.tap c.args.here 0 (map tap_of ss)) c.as_slice.ensures in
    let stations = c.requires.sound.stations_most in
    record { so_far = ap₂ min station (sym rest) ∙ sym two; most = c.nearest_station-least.ensures.most; few = omega (arith, first, stations) }

pub loop-repeater-preserved : goal.loop-repeater-preserved
loop-repeater-preserved c =
    let l = c.args.layout.now in
    let rs = c.as_slice-repeaters.result.now in
    let d = c.repeater-item.result in
    let k = c.loop-repeater.repeater-index in
    let rest = flat_map (λ (r : RepeaterLine). r.ports) (drop (k + 1) rs) in
    let ports = c.as_slice-ports.result.now in
    let read : ports ≡ (get_or rs k d).ports = c.as_slice-ports.ensures ∙ ap (λ (r : RepeaterLine). r.ports) c.repeater-item.is in
    let two = nearest_two c.args.tap c.args.here c.loop-repeater.first ports rest in
    let split = at_drop_more (λ xs. nearest c.args.tap c.args.here c.loop-repeater.first (flat_map (λ (r : RepeaterLine). r.ports) xs)) rs k d c.loop-repeater-test.true in
    let this = ap (λ xs. nearest c.args.tap c.args.here c.loop-repeater.first (xs ++ rest)) read in
    let before = c.loop-repeater.invariant.so_far in
    let way = c.nearest_port.ensures.way in
    let least = c.min-least.ensures in
    let most = c.loop-repeater.invariant.most in
    let in_it : k < length l.repeaters = omega (arith, c.loop-repeater-test.true, ap length c.as_slice-repeaters.ensures) in
    let row = c.requires.sound.repeaters k d in_it in
    let few : length ports ≤ most_ports = let f = row.ports_most in let e = ap length (read ∙ ap (λ xs. (get_or xs k d).ports) c.as_slice-repeaters.ensures) in omega (arith, f, e) in
    let first = c.loop-repeater.invariant.few in
    record { so_far = omega (arith, two, split, this, before, way, least); most = omega (arith, most, least); few = omega (arith, few, first) }
