use Rattle.std.proofs.Common.{◌≡◌, length, false, ap, subst, sym, ◌∙◌, arith}
use Rattle.load_plan.specs.declared.plan.Plan.{Plan}
use Rattle.net_parts.specs.Windows.{windows}
use Rattle.turn_run.specs.PartsInTurn.{AreAtWindow}
use Rattle.turn_run.proofs.PartsOneByOne.{written_back}
use Rattle.turn_run.proofs.ParcelsOnTheirWay.{length-all}
use Rattle.turn_run.proofs.run.run_parts.Goals as goal

pub run_windows-requires-clause-hand : goal.run_windows-requires-clause-hand
run_windows-requires-clause-hand g c κs within =
    let hand = ap length c.as_mut_slice-4.ensures.value in
    let parcels = ap length c.as_mut_slice-3.ensures.value in
    let first = ap length c.in_ok-parcels.ensures in
    let all = length-all c.args.plan.now false 0 in
    let many = c.in_ok-hand.ensures in
    let count = c.count_edges-edges.ensures.value in
    omega (arith, hand, parcels, first, all, many, count)

pub gather_parts-requires-clause-segments : goal.gather_parts-requires-clause-segments
gather_parts-requires-clause-segments g c κs within =
    let plan = c.args.plan.now in
    let n = length plan.layout.segments in
    let ss = c.run_windows.new.segments in
    let done : AreAtWindow g.S.Part.plan g.S.Part.number g.S.Part.at plan 0 n c.of-pace.result.windows ss = c.in_ok-run_windows.ensures.segments in
    let last : c.of-pace.result.windows ≡ windows plan = c.of-pace.result.window_count ∙ ap (λ (p : Plan). windows p) c.of-pace.ensures in
    let long = done.long in
    let size = c.in_ok-segments.ensures.long in
    let same = c.in_ok-segments.segments.ok.0 in
    let count = c.requires.segments in
    let wrote = written_back c.in_ok-segments.segments.len c.in_ok-segments.segments.items ss (omega (arith, long, size, same, count)) in
    subst (λ xs. AreAtWindow g.S.Part.plan g.S.Part.number g.S.Part.at plan 0 n (windows plan) xs) (sym wrote)
    (subst (λ w. AreAtWindow g.S.Part.plan g.S.Part.number g.S.Part.at plan 0 n w ss) last done)

pub gather_parts-requires-clause-repeaters : goal.gather_parts-requires-clause-repeaters
gather_parts-requires-clause-repeaters g c κs within =
    let plan = c.args.plan.now in
    let n = length plan.layout.segments in
    let m = length plan.layout.repeaters in
    let ss = c.run_windows.new.repeaters in
    let done : AreAtWindow g.R.Part.plan g.R.Part.number g.R.Part.at plan n m c.of-pace.result.windows ss = c.in_ok-run_windows.ensures.repeaters in
    let last : c.of-pace.result.windows ≡ windows plan = c.of-pace.result.window_count ∙ ap (λ (p : Plan). windows p) c.of-pace.ensures in
    let long = done.long in
    let size = c.in_ok-repeaters.ensures.long in
    let same = c.in_ok-repeaters.repeaters.ok.0 in
    let count = c.requires.repeaters in
    let wrote = written_back c.in_ok-repeaters.repeaters.len c.in_ok-repeaters.repeaters.items ss (omega (arith, long, size, same, count)) in
    subst (λ xs. AreAtWindow g.R.Part.plan g.R.Part.number g.R.Part.at plan n m (windows plan) xs) (sym wrote)
    (subst (λ w. AreAtWindow g.R.Part.plan g.R.Part.number g.R.Part.at plan n m w ss) last done)
