use Rattle.std.proofs.Common.{◌<◌, length, get_or, sym, ap, arith}
use Rattle.net_parts.proofs.EdgeNumbers.{none_before, one_more_before}
use Rattle.net_parts.proofs.edges.edges_before.Goals as goal

pub loop-k-init : goal.loop-k-init
loop-k-init c = record { so_far = sym (none_before c.as_slice-repeaters.result.now); few = omega arith }

pub loop-k-preserved : goal.loop-k-preserved
loop-k-preserved c =
    let rs = c.as_slice-repeaters.result.now in
    let l = c.args.layout.now in
    let d = c.index-repeaters-k.result in
    let k = c.loop-k.k in
    let same = ap length c.as_slice-repeaters.ensures in
    let within = c.requires.within in
    let in_it : k < length l.repeaters = omega (arith, c.loop-k-test.true, within) in
    let row = c.requires.sound.repeaters k d in_it in
    let most = row.ports_most in
    let one = one_more_before rs k d (omega (arith, in_it, same)) in
    let port = ap (λ xs. length (get_or xs k d).ports) c.as_slice-repeaters.ensures in
    let count = c.len.ensures in
    let so_far = c.loop-k.invariant.so_far in
    let few = c.loop-k.invariant.few in
    record { so_far = omega (arith, one, so_far, count); few = omega (arith, most, port, count, few) }
