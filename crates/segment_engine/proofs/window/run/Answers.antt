use Rattle.std.proofs.Common.{◌≡◌, ◌+◌, ◌*◌, ◌≤◌, List, map, length, refl, sym, subst, ap, ap₂, ◌∙◌, arith}
use Rattle.mac_parameters.specs.Parameters.{most_half_bits}
use Rattle.mac_receive.specs.KeptReceiver.{KeptReception}
use Rattle.mac_transmit.specs.Sender.{Sender}
use Rattle.net_parts.specs.declared.parcel.Parcel.{Parcel}
use Rattle.net_parts.specs.SegmentParts.{wiring}
use Rattle.window_room.specs.Rooms.{Room}
use Rattle.segment_engine.specs.PartStates.{half_filled, turned_to_repeater}
use Rattle.segment_engine.specs.StationsApart.{CoversApart}
use Rattle.segment_engine.proofs.RunsApart.{covers_sooner}
use Rattle.segment_engine.proofs.SegmentWindows.{is_window, begins, early, half_bits_are, within_window, within_run}
use Rattle.segment_engine.proofs.WindowParcels.{parcels_came, parcels_go, covers_since}
use Rattle.segment_engine.proofs.window.run.Goals.{Start, After-arrive}
use Rattle.segment_engine.proofs.window.run.Goals as goal

pub arrive-requires-clause-time : goal.arrive-requires-clause-time
arrive-requires-clause-time c = begins c.args.of.now c.args.window c.args.state.now.t c.requires.below c.requires.time

-- what came in for the ports
came : (c : Start) → c.args.parcels.now ≡ map (half_filled c.args.of.now.plan.value c.args.of.now.lookahead c.args.window 0) (wiring c.args.of.now.plan.value.layout c.args.of.now.number).edges
came c =
    let g = c.args.of.now in
    let plan = g.plan.value in
    let wd = c.args.window in
    c.requires.parcels
    ∙ parcels_came plan wd (is_window g wd c.args.state.now.t c.requires.below c.requires.time) g.number g.within
    ∙ ap (λ n. map (half_filled plan n wd 0) (wiring plan.layout g.number).edges) (sym g.window_length)

pub arrive-requires-clause-parcels : goal.arrive-requires-clause-parcels
arrive-requires-clause-parcels c = came (goal.at.arrive-requires-clause-parcels c).Start

pub arrive-requires-clause-in_time : goal.arrive-requires-clause-in_time
arrive-requires-clause-in_time c = early c.args.of.now c.args.window c.args.state.now.t c.requires.below c.requires.time

-- the window's half bits are within the run
in_run : (c : After-arrive) → c.arrive.new.state.t + c.min-count.result ≤ most_half_bits
in_run c =
    let g = c.args.of.now in
    let t = c.args.state.now.t in
    let wd = c.args.window in
    let starts = begins g wd t c.requires.below c.requires.time in
    let same = c.arrive.ensures.time in
    let few = within_run g wd t c.requires.below c.requires.time c.from.result c.min-count.result t c.from.ensures refl c.min-count.ensures t 0 (omega (arith, starts)) (omega arith) in
    omega (arith, few, same)

pub go_apart-requires-clause-in_time : goal.go_apart-requires-clause-in_time
go_apart-requires-clause-in_time c = in_run (goal.at.go_apart-requires-clause-in_time c).After-arrive

pub go_apart-requires-clause-parcels : goal.go_apart-requires-clause-parcels
go_apart-requires-clause-parcels c = came (goal.at.go_apart-requires-clause-parcels c).Start

pub go_apart-requires-clause-room : goal.go_apart-requires-clause-room
go_apart-requires-clause-room c =
    let g = c.args.of.now in
    let a = c.args.state.now in
    let b = c.arrive.new.state in
    let n = length g.stations.items in
    let e = a.t + g.lookahead in
    let few = within_window g c.args.window a.t c.requires.below c.requires.time c.from.result c.min-count.result a.t c.from.ensures refl c.min-count.ensures in
    let same = c.arrive.ensures.time in
    let first : CoversApart e n b.watches.items a.senders.items a.receivers.items a.room = covers_since e n a.watches.items b.watches.items a.senders.items a.receivers.items a.room c.arrive.ensures.since c.requires.room in
    let P : List Sender → Type 0 = λ ss. CoversApart e n b.watches.items ss a.receivers.items a.room in
    let Q : List KeptReception → Type 0 = λ ks. CoversApart e n b.watches.items b.senders.items ks a.room in
    let R : Room → Type 0 = λ room. CoversApart e n b.watches.items b.senders.items b.receivers.items room in
    covers_sooner (b.t + c.min-count.result) e n b.watches.items b.senders.items b.receivers.items b.room (omega (arith, few, same))
    (subst R (sym c.arrive.ensures.room) (subst Q (sym (ap (λ v. v.items) c.arrive.ensures.receivers)) (subst P (sym (ap (λ v. v.items) c.arrive.ensures.senders)) first)))

pub overflow_mul-front : goal.overflow_mul-front
overflow_mul-front c =
    let g = c.args.of.now in
    let wd = c.args.window in
    let t = c.args.state.now.t in
    let e : (wd + 1) * c.from-2.result ≡ wd * g.lookahead + g.lookahead = ap (λ x. (wd + 1) * x) c.from-2.ensures ∙ omega arith in
    let starts = begins g wd t c.requires.below c.requires.time in
    let small = early g wd t c.requires.below c.requires.time in
    omega (arith, e, starts, small)

pub settle_if_due-requires-clause-in_time : goal.settle_if_due-requires-clause-in_time
settle_if_due-requires-clause-in_time c =
    let later = c.go_apart.ensures.time in
    let few = in_run (goal.at.settle_if_due-requires-clause-in_time c).After-arrive in
    omega (arith, few, later)

pub returns-clause-parcels : goal.returns-clause-parcels
returns-clause-parcels c =
    let g = c.args.of.now in
    let plan = g.plan.value in
    let t = c.args.state.now.t in
    let wd = c.args.window in
    let all = half_bits_are g wd t c.requires.below c.requires.time c.from.result c.min-count.result t c.from.ensures refl c.min-count.ensures in
    c.turn.ensures
    ∙ ap₂ (λ m (ps : List Parcel). map (turned_to_repeater m) ps) all
    (c.go_apart.ensures.parcels ∙ ap₂ (λ n m. map (half_filled plan n wd m) (wiring plan.layout g.number).edges) g.window_length all)
    ∙ parcels_go plan wd (is_window g wd t c.requires.below c.requires.time) g.number g.within
