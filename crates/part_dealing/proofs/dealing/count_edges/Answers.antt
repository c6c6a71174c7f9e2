use Rattle.std.proofs.Common.{◌<◌, length, get_or, sym, ap, arith}
use Rattle.load_plan.proofs.PlansAreSound.{sound_of_plan}
use Rattle.net_parts.proofs.EdgeNumbers.{none_before, one_more_before}
use Rattle.part_dealing.proofs.dealing.count_edges.Goals as goal

pub loop-repeater-init : goal.loop-repeater-init
loop-repeater-init c = record { so_far = sym (none_before c.as_slice-repeaters.result.now); within = omega arith; few = omega arith }

pub loop-repeater-preserved : goal.loop-repeater-preserved
loop-repeater-preserved c =
    let rs = c.as_slice-repeaters.result.now in
    let l = c.args.plan.now.layout in
    let d = c.repeater-item.result in
    let k = c.loop-repeater.repeater-index in
    let same = ap length c.as_slice-repeaters.ensures in
    let in_it : k < length l.repeaters = omega (arith, c.loop-repeater-test.true, same) in
    let most = ((sound_of_plan c.args.plan.now).repeaters k d in_it).ports_most in
    let one = one_more_before rs k d c.loop-repeater-test.true in
    let port = ap (λ xs. length (get_or xs k d).ports) c.as_slice-repeaters.ensures in
    let count = c.len.ensures in
    let item = ap (λ r. length r.ports) c.repeater-item.is in
    let so_far = c.loop-repeater.invariant.so_far in
    let few = c.loop-repeater.invariant.few in
    record { so_far = omega (arith, one, so_far, count, item); within = omega (arith, c.loop-repeater-test.true); few = omega (arith, most, port, count, few, item) }
