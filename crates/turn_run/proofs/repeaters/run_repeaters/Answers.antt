use Rattle.std.proofs.Common.{◌≡◌, ◌+◌, ◌-◌, ◌<◌, ◌≤◌, ◌++◌, take, drop, length, refl, sym, ap, ap₂, ◌∙◌, arith}
use Rattle.net_parts.specs.RepeaterParts.{edges_before, edges_in}
use Rattle.net_parts.specs.Parcels.{arrived, refilled}
use Rattle.net_parts.specs.Parts.{edges_of_part}
use Rattle.net_parts.proofs.EdgeNumbers.{none_before}
use Rattle.turn_run.proofs.PartsOneByOne.{none_done, one_done}
use Rattle.turn_run.proofs.ParcelsOnTheirWay.{back_to, none_back, all_back, counted, most, long, comes, went, few_edges, before_more, before_all}
use Rattle.turn_run.proofs.repeaters.run_repeaters.Goals as goal

pub loop-i-init : goal.loop-i-init
loop-i-init g c =
    let plan = c.args.plan.now in
    record {
      repeaters = none_done g.R.Part.plan g.R.Part.number g.R.Part.at plan (length plan.layout.segments) (length plan.layout.repeaters) c.args.window c.args.repeaters.now c.requires.repeaters;
      first = sym (none_before plan.layout.repeaters);
      parcels = none_back plan c.args.window c.args.parcels.now c.requires.parcels;
    }

pub overflow_add-behind : goal.overflow_add-behind
overflow_add-behind g c =
    let plan = c.args.plan.now in
    let rs = plan.layout.repeaters in
    let u = length plan.layout.segments + c.loop-i.i in
    let inv = c.loop-i.invariant in
    let t = c.loop-i-test.true in
    let m = inv.repeaters.long in
    let size = c.loop-i.auto.repeaters in
    let in' : c.loop-i.i < length rs = omega (arith, t, m, size) in
    let h = inv.repeaters.waiting c.loop-i.i c.index-repeaters-i.result (omega arith) in' in
    let so_far = inv.parcels ∙ ap (back_to plan c.args.window) inv.first in
    let many : length c.edges.result.now ≡ edges_in rs c.loop-i.i = ap length (c.edges.ensures ∙ ap₂ edges_of_part h.0 h.1) ∙ counted plan c.args.window c.loop-i.i u refl in' c.loop-i.parcels so_far in
    let fits = most plan c.args.window c.loop-i.i u refl in' c.loop-i.parcels so_far in
    let few = few_edges plan in
    let first = inv.first in
    omega (arith, many, fits, few, first)

pub offset_bounds-parcels-first : goal.offset_bounds-parcels-first
offset_bounds-parcels-first g c =
    let plan = c.args.plan.now in
    let rs = plan.layout.repeaters in
    let u = length plan.layout.segments + c.loop-i.i in
    let inv = c.loop-i.invariant in
    let t = c.loop-i-test.true in
    let m = inv.repeaters.long in
    let size = c.loop-i.auto.repeaters in
    let in' : c.loop-i.i < length rs = omega (arith, t, m, size) in
    let so_far = inv.parcels ∙ ap (back_to plan c.args.window) inv.first in
    let fits = most plan c.args.window c.loop-i.i u refl in' c.loop-i.parcels so_far in
    let few = few_edges plan in
    let first = inv.first in
    omega (arith, fits, few, first)

pub slice_bounds-run_repeater-end : goal.slice_bounds-run_repeater-end
slice_bounds-run_repeater-end g c =
    let plan = c.args.plan.now in
    let rs = plan.layout.repeaters in
    let u = length plan.layout.segments + c.loop-i.i in
    let inv = c.loop-i.invariant in
    let t = c.loop-i-test.true in
    let m = inv.repeaters.long in
    let size = c.loop-i.auto.repeaters in
    let in' : c.loop-i.i < length rs = omega (arith, t, m, size) in
    let h = inv.repeaters.waiting c.loop-i.i c.index-repeaters-i.result (omega arith) in' in
    let so_far = inv.parcels ∙ ap (back_to plan c.args.window) inv.first in
    let many : length c.edges.result.now ≡ edges_in rs c.loop-i.i = ap length (c.edges.ensures ∙ ap₂ edges_of_part h.0 h.1) ∙ counted plan c.args.window c.loop-i.i u refl in' c.loop-i.parcels so_far in
    let fits = most plan c.args.window c.loop-i.i u refl in' c.loop-i.parcels so_far in
    let all = long plan c.args.window c.loop-i.i u refl in' c.loop-i.parcels so_far in
    let first = inv.first in
    let within : c.loop-i.first + length c.edges.result.now ≤ length c.loop-i.parcels = omega (arith, many, fits, all, first) in
    within

pub run_repeater-requires-clause-parcels : goal.run_repeater-requires-clause-parcels
run_repeater-requires-clause-parcels g c κs within =
    let plan = c.args.plan.now in
    let rs = plan.layout.repeaters in
    let u = length plan.layout.segments + c.loop-i.i in
    let inv = c.loop-i.invariant in
    let t = c.loop-i-test.true in
    let m = inv.repeaters.long in
    let size = c.loop-i.auto.repeaters in
    let in' : c.loop-i.i < length rs = omega (arith, t, m, size) in
    let h = inv.repeaters.waiting c.loop-i.i c.index-repeaters-i.result (omega arith) in' in
    let k = inv.repeaters.waiting c.loop-i.i c.index-repeaters-i-in-loop-i.result (omega arith) in' in
    let so_far = inv.parcels ∙ ap (back_to plan c.args.window) inv.first in
    let many : length c.edges.result.now ≡ edges_in rs c.loop-i.i = ap length (c.edges.ensures ∙ ap₂ edges_of_part h.0 h.1) ∙ counted plan c.args.window c.loop-i.i u refl in' c.loop-i.parcels so_far in
    let z : c.loop-i.first + length c.edges.result.now - c.loop-i.first ≡ edges_in rs c.loop-i.i = omega (arith, many) in
    ap₂ (λ a b. take a (drop b c.loop-i.parcels)) z inv.first
    ∙ comes plan c.args.window c.loop-i.i u refl in' c.loop-i.parcels so_far
    ∙ sym (λ j. arrived (k.0 j) (k.1 j) (k.2 j))

pub loop-i-preserved : goal.loop-i-preserved
loop-i-preserved g c =
    let plan = c.args.plan.now in
    let rs = plan.layout.repeaters in
    let n = length plan.layout.segments in
    let u = n + c.loop-i.i in
    let w = c.args.window in
    let i = c.loop-i.i in
    let p = c.loop-i.parcels in
    let inv = c.loop-i.invariant in
    let t = c.loop-i-test.true in
    let m = inv.repeaters.long in
    let size = c.loop-i.auto.repeaters in
    let in' : i < length rs = omega (arith, t, m, size) in
    let h = inv.repeaters.waiting i c.index-repeaters-i.result (omega arith) in' in
    let k = inv.repeaters.waiting i c.index-repeaters-i-in-loop-i.result (omega arith) in' in
    let so_far = inv.parcels ∙ ap (back_to plan w) inv.first in
    let many : length c.edges.result.now ≡ edges_in rs i = ap length (c.edges.ensures ∙ ap₂ edges_of_part h.0 h.1) ∙ counted plan w i u refl in' p so_far in
    let z : c.loop-i.first + length c.edges.result.now - c.loop-i.first ≡ edges_in rs i = omega (arith, many) in
    let ran = c.in_ok-run_repeater.ensures in
    let made = ran.parcels ∙ (λ j. refilled (k.0 j) (k.1 j) (k.2 j)) in
    let first = inv.first in
    let more = before_more rs i in' in
    let both : edges_before rs i + edges_in rs i ≡ c.loop-i.first + length c.edges.result.now = omega (arith, first, many) in
    record {
      repeaters = one_done g.R.Part.plan g.R.Part.number g.R.Part.at plan n (length rs) w i c.loop-i.repeaters _ c.run_repeater.new.repeater inv.repeaters in' (ran.plan ∙ k.0, ran.number ∙ k.1, ran.at ∙ ap (λ x. x + 1) k.2) refl;
      first = omega (arith, first, many, more);
      parcels = went plan w i u refl in' p so_far c.run_repeater.new.parcels _ made (ap₂ (λ a b. take a p ++ (c.run_repeater.new.parcels ++ drop b (drop a p))) inv.first z) ∙ ap (back_to plan w) both;
    }

pub returns-clause-parcels : goal.returns-clause-parcels
returns-clause-parcels g c =
    let plan = c.args.plan.now in
    let rs = plan.layout.repeaters in
    let inv = c.loop-i.invariant in
    let t = c.loop-i-test.false in
    let m = inv.repeaters.long in
    let size = c.loop-i.auto.repeaters in
    let end = c.loop-i.auto.i-end in
    let all : c.loop-i.i ≡ length rs = omega (arith, t, m, size, end) in
    all_back plan c.args.window c.loop-i.first c.loop-i.parcels inv.parcels (inv.first ∙ ap (edges_before rs) all ∙ before_all rs)
