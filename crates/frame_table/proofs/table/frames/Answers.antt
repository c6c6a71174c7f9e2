use Rattle.std.proofs.Common.{ℕ, ◌+◌, ◌<◌, [], List, length, get_or, ap, ◌∙◌, subst, sym, arith}
use Rattle.std.proofs.lemmas.List.{get_or_read}
use Rattle.load_plan.proofs.PlansAreSound.{sound_of_plan}
use Rattle.frame_table.specs.Devices.{RisesFrom, events_of}
use Rattle.frame_table.specs.declared.events.Event.{Event}
use Rattle.frame_table.proofs.DeviceSteps.{all_rise}
use Rattle.frame_table.proofs.TableSteps.{frames_are, got_at, stations_more, stations_end}
use Rattle.frame_table.proofs.OneTable.{are_routes, one_path, routes_of}
use Rattle.frame_table.proofs.table.frames.Goals as goal

pub events_by_device-requires : goal.events_by_device-requires
events_by_device-requires c = sound_of_plan c.args.plan.now

pub told_by-requires-clause-sound : goal.told_by-requires-clause-sound
told_by-requires-clause-sound c = sound_of_plan c.args.plan.now

pub told_by-requires-clause-order : goal.told_by-requires-clause-order
told_by-requires-clause-order c =
    let l = c.args.plan.now.layout in
    subst (λ (es : List (List Event)). (k : ℕ) → RisesFrom (λ (e : Event). e.t) 0 (get_or es k [])) (sym c.as_slice-2.ensures.value)
    (all_rise l c.args.lines.now c.in_ok-events.events.items (length l.stations + length l.repeaters) c.requires.log.order c.in_ok-events.ensures.count
    (λ k low. c.in_ok-events.ensures.each k low ∙ ap (events_of l k) c.as_slice.ensures))

pub network_of-requires : goal.network_of-requires
network_of-requires c = sound_of_plan c.args.plan.now

pub loop-a-preserved : goal.loop-a-preserved
loop-a-preserved c = λ paths are.
    let plan = c.args.plan.now in
    let l = plan.layout in
    let lines = c.args.lines.now in
    let events = c.in_ok-events.events.items in
    let a = c.loop-a.a in
    let low : a < length l.stations = omega (arith, c.loop-a-test.true, c.len-a-end.ensures) in
    let s = got_at l.stations a low in
    let q = got_at plan.queues a (omega (arith, low, plan.queued)) in
    let told =
    c.in_ok-told.ensures.told lines
    (λ k below. ap (λ (es : List (List Event)). get_or es k []) c.as_slice-2.ensures.value ∙ c.in_ok-events.ensures.each k below ∙ ap (events_of l k) c.as_slice.ensures) in
    let happened =
    c.as_slice-in-loop-a.ensures ∙ get_or_read events a c.index.result.now (omega (arith, low, c.in_ok-events.ensures.count)) c.index.ensures []
    ∙ c.in_ok-events.ensures.each a (omega (arith, low)) ∙ ap (events_of l a) c.as_slice.ensures in
    stations_more plan paths lines a l.stations plan.queues s.0 q.0 c.loop-a.text c.add_station.new.text _ s.1 q.1
    (c.in_ok-add_station.ensures lines paths s.0 q.0 told are happened s.1 q.1) (c.loop-a.invariant paths are)

pub returns : goal.returns
returns c =
    let plan = c.args.plan.now in
    let paths = routes_of plan.layout (one_path plan) in
    let are = are_routes plan.layout (one_path plan) in
    record {
      routes = paths;
      are = are;
      told = stations_end plan paths c.args.lines.now c.loop-a.a plan.layout.stations plan.queues c.loop-a.text _ (omega (arith, c.loop-a-test.false, c.len-a-end.ensures)) (c.loop-a.invariant paths are) ∙ frames_are plan paths c.args.lines.now;
    }
