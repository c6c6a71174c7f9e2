use Rattle.std.proofs.Common.{◌-◌, map, sym, arith}
use Rattle.std.proofs.lemmas.List.{get_or-map, length-map}
use Rattle.frame_table.proofs.DeviceSteps.{place_grows}
use Rattle.frame_table.proofs.devices.places_of.Goals as goal

pub loop-i-preserved : goal.loop-i-preserved
loop-i-preserved c =
    let names = c.args.names.now in
    let i = c.loop-i.i in
    let long = length-map names (λ n. n.now) in
    record {
      placed = place_grows (map (λ n. n.now) names) i c.loop-i.places c.insert.new.self _ (omega arith) (omega (arith, long)) (sym (get_or-map (λ n. n.now) names (i - 1) _ _ (omega arith))) c.loop-i.invariant.placed c.in_ok-insert.ensures.updates;
      within = omega arith;
    }
