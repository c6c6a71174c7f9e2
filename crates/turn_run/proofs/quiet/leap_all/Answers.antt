use Rattle.std.proofs.Common.{◌≡◌, ◌+◌, ◌<◌, ◌≤◌, length, ◌∙◌, arith, rules}
use Rattle.turn_run.proofs.SilentNetwork.{all_running, idle_segments, idle_repeaters, parcels_later, few_windows}
use Rattle.turn_run.proofs.quiet.leap_all.Goals as goal

pub quiet_everywhere-quiet-requires-clause-segments : goal.quiet_everywhere-quiet-requires-clause-segments
quiet_everywhere-quiet-requires-clause-segments g c κs within =
    let plan = c.args.plan.now in
    let in_run = c.requires.within in
    all_running g.S.Part.plan g.S.Part.number g.S.Part.at plan 0 (length plan.layout.segments) c.args.window c.args.segments.now c.requires.segments (omega (arith, in_run))

pub quiet_everywhere-quiet-requires-clause-repeaters : goal.quiet_everywhere-quiet-requires-clause-repeaters
quiet_everywhere-quiet-requires-clause-repeaters g c κs within =
    let plan = c.args.plan.now in
    let in_run = c.requires.within in
    all_running g.R.Part.plan g.R.Part.number g.R.Part.at plan (length plan.layout.segments) (length plan.layout.repeaters) c.args.window c.args.repeaters.now c.requires.repeaters (omega (arith, in_run))

pub leap_parts-requires-clause-silent : goal.leap_parts-requires-clause-silent
leap_parts-requires-clause-silent g c κs within =
    let q = c.quiet_everywhere-quiet.result in
    let e = c.quiet_everywhere-quiet.ensures in
    let some : 0 < q = search rules in
    let in_run = c.requires.within in
    idle_segments g.S.Part.plan g.S.Part.number g.S.Part.at g.S.PartKind.comes g.S.PartKind.goes g.R.Part.plan g.R.Part.number g.R.Part.at g.R.PartKind.comes g.R.PartKind.goes c.args.plan.now c.args.window q
    c.requires.arrive c.requires.heard c.requires.hear c.requires.decide c.args.segments.now c.args.repeaters.now c.requires.segments c.requires.repeaters (e.silent_segments some) (e.silent_repeaters some) c.args.parcels.now (omega (arith, in_run)) c.requires.parcels (e.idle some)

pub leap_parts-requires-2-clause-silent : goal.leap_parts-requires-2-clause-silent
leap_parts-requires-2-clause-silent g c κs within =
    let q = c.quiet_everywhere-quiet.result in
    let e = c.quiet_everywhere-quiet.ensures in
    let some : 0 < q = search rules in
    let in_run = c.requires.within in
    idle_repeaters g.S.Part.plan g.S.Part.number g.S.Part.at g.S.PartKind.comes g.S.PartKind.goes g.R.Part.plan g.R.Part.number g.R.Part.at g.R.PartKind.comes g.R.PartKind.goes c.args.plan.now c.args.window q
    c.requires.arrive c.requires.heard c.requires.hear c.requires.decide c.args.segments.now c.args.repeaters.now c.requires.segments c.requires.repeaters (e.silent_segments some) (e.silent_repeaters some) c.args.parcels.now (omega (arith, in_run)) c.requires.parcels (e.idle some)

pub overflow_add-window : goal.overflow_add-window
overflow_add-window g c =
    let few = few_windows c.args.plan.now (c.args.window + c.args.most) c.requires.within in
    let most = c.quiet_everywhere-quiet.ensures.within in
    omega (arith, few, most)

pub returns-clause-parcels : goal.returns-clause-parcels
returns-clause-parcels g c =
    let q = c.quiet_everywhere-quiet.result in
    let e = c.quiet_everywhere-quiet.ensures in
    let some : 0 < q = search rules in
    let in_run = c.requires.within in
    let most = e.within in
    c.stamp_all.ensures
    ∙ parcels_later g.S.Part.plan g.S.Part.number g.S.Part.at g.S.PartKind.comes g.S.PartKind.goes g.R.Part.plan g.R.Part.number g.R.Part.at g.R.PartKind.comes g.R.PartKind.goes c.args.plan.now c.args.window q
    c.requires.arrive c.requires.heard c.requires.hear c.requires.decide c.args.segments.now c.args.repeaters.now c.requires.segments c.requires.repeaters (e.silent_segments some) (e.silent_repeaters some) c.args.parcels.now (omega (arith, in_run)) c.requires.parcels (e.idle some) (omega (arith, in_run, most))
