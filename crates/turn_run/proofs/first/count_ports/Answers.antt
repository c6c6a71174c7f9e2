use Rattle.std.proofs.Common.{◌≡◌, ◌<◌, length, get_or, sym, ap, ap₂, arith, ◌∙◌}
use Rattle.net_parts.specs.RepeaterParts.{edges_before}
use Rattle.net_parts.proofs.EdgeNumbers.{none_before, one_more_before}
use Rattle.turn_run.proofs.ParcelsOnTheirWay.{before_all}
use Rattle.turn_run.proofs.first.count_ports.Goals as goal

pub loop-repeater-init : goal.loop-repeater-init
loop-repeater-init c = record { so_far = sym (none_before c.as_slice-repeaters.result.now); within = omega arith; few = omega arith }

pub loop-repeater-preserved : goal.loop-repeater-preserved
loop-repeater-preserved c =
    let rs = c.as_slice-repeaters.result.now in
    let l = c.args.layout.now in
    let d = c.repeater-item.result in
    let k = c.loop-repeater.repeater-index in
    let same = ap length c.as_slice-repeaters.ensures in
    let in' = c.loop-repeater-test.true in
    let in_it : k < length l.repeaters = omega (arith, in', same) in
    let row = c.requires.repeaters k d in_it in
    let most = row.ports_most in
    let one = one_more_before rs k d (omega (arith, in_it, same)) in
    let port = ap (λ xs. length (get_or xs k d).ports) c.as_slice-repeaters.ensures in
    let count = c.len.ensures in
    let item = ap (λ r. length r.ports) c.repeater-item.is in
    let so_far = c.loop-repeater.invariant.so_far in
    let few = c.loop-repeater.invariant.few in
    record { so_far = omega (arith, one, so_far, count, item); within = omega (arith, in'); few = omega (arith, most, port, count, few, item) }

pub returns-clause-value : goal.returns-clause-value
returns-clause-value c =
    let l = c.args.layout.now in
    let same = ap length c.as_slice-repeaters.ensures in
    let all : c.loop-repeater.repeater-index ≡ length l.repeaters = let low = c.loop-repeater-test.false in let high = c.loop-repeater.invariant.within in omega (arith, low, high, same) in
    c.loop-repeater.invariant.so_far ∙ ap₂ edges_before c.as_slice-repeaters.ensures all ∙ before_all l.repeaters
