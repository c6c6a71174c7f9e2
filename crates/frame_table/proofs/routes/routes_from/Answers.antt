use Rattle.std.proofs.Common.{◌≡◌, ◌≢◌, List, length, refl, ap, subst, sym, arith}
use Rattle.std.specs.Option.{option_map}
use Rattle.std.proofs.lemmas.List.{with_items_is}
use Rattle.layout.specs.Taps.{tap_of}
use Rattle.layout.specs.declared.ways.Attachment.{Attachment}
use Rattle.layout.specs.declared.ways.Attachment.TheVariants.{Station}
use Rattle.layout.specs.declared.ways.Way.TheVariants as way
use Rattle.layout.specs.Paths.{IsWalk}
use Rattle.path_checker.specs.Far.{IsStop}
use Rattle.path_checker.specs.declared.stops.Stop.{Stop}
use Rattle.frame_table.specs.Led.{AreLed, IsFound}
use Rattle.frame_table.proofs.WaysFound.{walk_between}
use Rattle.frame_table.proofs.WaysOn.{led_first}
use Rattle.frame_table.proofs.routes.routes_from.Goals as goal

pub spread_on-requires-clause-first : goal.spread_on-requires-clause-first
spread_on-requires-clause-first c = ap (option_map tap_of) c.get-line.ensures

pub returns-clause-count : goal.returns-clause-count
returns-clause-count c =
    let before = c.in_ok-routes.routes in
    let new = c.spread_on.new.routes in
    let long : length new ≡ before.len = omega (arith, c.spread_on.auto.routes, ap length c.as_mut_slice.ensures.value, before.ok.0) in
    let is = with_items_is before new long in
    omega (arith, ap length is, long, before.ok.0, c.in_ok-routes.ensures.count, c.len.ensures)

pub returns-clause-led : goal.returns-clause-led
returns-clause-led c =
    let l = c.args.layout.now in
    let a = c.args.station in
    let before = c.in_ok-routes.routes in
    let new = c.spread_on.new.routes in
    let long : length new ≡ before.len = omega (arith, c.spread_on.auto.routes, ap length c.as_mut_slice.ensures.value, before.ok.0) in
    let stop : Stop = record { tap = Station a; segment = c.get-line.result.now.segment; at = c.get-line.result.now.at } in
    let stands : IsStop l stop = ap (option_map tap_of) c.get-line.ensures in
    let none : AreLed l a c.as_mut_slice.result.now = subst (AreLed l a) (sym c.as_mut_slice.ensures.value) (c.in_ok-routes.ensures.none l a) in
    let led : AreLed l a new = c.in_ok-spread_on.ensures.led a (led_first l a stop c.new.result refl stands c.new.ensures) none in
    subst (AreLed l a) (sym (with_items_is before new long)) led

pub returns-clause-found : goal.returns-clause-found
returns-clause-found c = λ b low differ.
    let l = c.args.layout.now in
    let a = c.args.station in
    let before = c.in_ok-routes.routes in
    let new = c.spread_on.new.routes in
    let long : length new ≡ before.len = omega (arith, c.spread_on.auto.routes, ap length c.as_mut_slice.ensures.value, before.ok.0) in
    let walk : (taps : List Attachment) × IsWalk l way.Cable (Station a) taps (Station b) = walk_between l a b c.get-line.result.now c.requires.sound c.requires.station low differ in
    let apart : Station a ≢ Station b = λ e. let same : a ≡ b = cc in differ (sym same) in
    subst (λ rs. IsFound rs b) (sym (with_items_is before new long))
    (c.in_ok-spread_on.ensures.found b walk.0 (omega (arith, low, ap length c.as_mut_slice.ensures.value, c.in_ok-routes.ensures.count, c.len.ensures)) walk.1 apart)
