use Rattle.std.proofs.Common.{◌≡◌, ◌+◌, length, get_or, sym, ap, ◌∙◌, arith, subst}
use Rattle.load_plan.proofs.PlansAreSound.{sound_of_plan}
use Rattle.net_parts.specs.RepeaterParts.{edges_before}
use Rattle.net_parts.proofs.EdgeNumbers.{none_before, one_more_before}
use Rattle.part_dealing.specs.OtherEnds.{IsOtherEnd}
use Rattle.part_dealing.proofs.EndsOfEdges.{edge_of_all, at_repeater, at_segment}
use Rattle.part_dealing.proofs.dealing.other_end.Goals as goal

pub loop-k-init : goal.loop-k-init
loop-k-init c = record { so_far = sym (none_before c.as_slice-repeaters.result.now); behind = omega arith }

pub overflow_add-result : goal.overflow_add-result
overflow_add-result c =
    let sound = sound_of_plan c.args.plan.now in
    let segments = sound.segments_most in
    let repeaters = sound.repeaters_most in
    let many = c.len-segments.ensures in
    let same = ap length c.as_slice-repeaters.ensures in
    omega (arith, segments, repeaters, many, same, c.loop-k-test.true)

pub returns-then-part-segments : goal.returns-then-part-segments
returns-then-part-segments c =
    let plan = c.args.plan.now in
    let d = c.index-repeaters-k.result in
    let k = c.loop-k.k in
    let many = c.len-segments.ensures in
    let same = ap length c.as_slice-repeaters.ensures in
    subst (λ n. IsOtherEnd plan c.args.part c.args.edge (n + k)) (sym c.len-segments.ensures)
    (at_repeater plan c.args.part c.args.edge k d c.as_slice-ports.result.now c.loop-k.first c.requires (omega (arith, same, c.loop-k-test.true))
    (c.as_slice-ports.ensures ∙ ap (λ xs. (get_or xs k d).ports) c.as_slice-repeaters.ensures)
    (c.loop-k.invariant.so_far ∙ ap (λ xs. edges_before xs k) c.as_slice-repeaters.ensures)
    c.loop-k.invariant.behind c.if-edge-first.true (omega (arith, many, c.if-part-segments.true)))

pub returns-then-edge-first : goal.returns-then-edge-first
returns-then-edge-first c =
    let plan = c.args.plan.now in
    let d = c.index-repeaters-k.result in
    let k = c.loop-k.k in
    let many = c.len-segments.ensures in
    let same = ap length c.as_slice-repeaters.ensures in
    at_segment plan c.args.part c.args.edge k d c.as_slice-ports.result.now c.loop-k.first c.requires (omega (arith, same, c.loop-k-test.true))
    (c.as_slice-ports.ensures ∙ ap (λ xs. (get_or xs k d).ports) c.as_slice-repeaters.ensures)
    (c.loop-k.invariant.so_far ∙ ap (λ xs. edges_before xs k) c.as_slice-repeaters.ensures)
    c.loop-k.invariant.behind c.if-edge-first.true record { segment = 0; at = 0 } (omega (arith, many, c.if-part-segments.false))

pub loop-k-preserved : goal.loop-k-preserved
loop-k-preserved c =
    let rs = c.as_slice-repeaters.result.now in
    let d = c.index-repeaters-k.result in
    let k = c.loop-k.k in
    let one = one_more_before rs k d c.loop-k-test.true in
    let size = ap length c.as_slice-ports.ensures in
    let so_far = c.loop-k.invariant.so_far in
    let behind = c.loop-k.invariant.behind in
    let past = c.if-edge-first.false in
    record { so_far = omega (arith, one, so_far, size); behind = omega (arith, behind, past) }

pub unreachable-requires : goal.unreachable-requires
unreachable-requires c =
    let plan = c.args.plan.now in
    let rs = plan.layout.repeaters in
    let all = edge_of_all plan c.args.part c.args.edge c.requires in
    let same = ap length c.as_slice-repeaters.ensures in
    let end = c.loop-k.auto.k-end in
    let last : c.loop-k.k ≡ length rs = omega (arith, same, end, c.loop-k-test.false) in
    let so_far = c.loop-k.invariant.so_far ∙ ap (λ xs. edges_before xs c.loop-k.k) c.as_slice-repeaters.ensures ∙ ap (edges_before rs) last in
    let behind = c.loop-k.invariant.behind in
    omega (arith, all, so_far, behind)
