use Rattle.std.proofs.Common.{◌-◌, subst, sym, get_or, arith}
use Rattle.layout.specs.declared.ways.Attachment.TheVariants.{Station}
use Rattle.layout.specs.declared.ways.Way.{Way}
use Rattle.layout.specs.Paths.{IsStep}
use Rattle.path_checker.specs.declared.stops.Stop.{Stop}
use Rattle.path_checker.specs.Far.{HasRoom}
use Rattle.path_checker.proofs.FarthestStation.{skip_more, station_more, port_more, sum_fits, same_tap_true, next_step, beside_at, onward_from, room_on}
use Rattle.path_checker.proofs.RightTables.{right_found, right_more}
use Rattle.path_checker.proofs.far.+farthest.Goals as goal

abbrev nowhere : Stop
nowhere = record { tap = Station 0; segment = 0; at = 0 }

pub loop-stop-preserved-then-is_same_tap : goal.loop-stop-preserved-then-is_same_tap
loop-stop-preserved-then-is_same_tap t c =
    record {
      best =
          skip_more c.args.layout.now c.args.way c.args.from.now.tap c.beside-near.result.now c.loop-stop.stop-index nowhere c.loop-stop.best c.loop-stop-test.true
          (same_tap_true (get_or c.beside-near.result.now c.loop-stop.stop-index nowhere).tap c.args.from.now.tap c.is_same_tap.result c.is_same_tap.ensures c.if-is_same_tap.true)
          c.loop-stop.invariant.best;
      table = c.loop-stop.invariant.table;
    }

pub step_length-step-requires-clause-to : goal.step_length-step-requires-clause-to
step_length-step-requires-clause-to t c =
    (beside_at c.args.layout.now c.args.network.now c.args.way c.args.from.now c.beside-near.result.now c.loop-stop.stop-index nowhere c.requires.sound c.requires.network c.requires.from c.beside-near.ensures c.loop-stop-test.true).stands

pub loop-stop-preserved-in-Station : goal.loop-stop-preserved-in-Station
loop-stop-preserved-in-Station t c =
    let step : IsStep c.args.layout.now c.args.way c.args.from.now.tap (get_or c.beside-near.result.now c.loop-stop.stop-index nowhere).tap =
    next_step c.args.layout.now c.args.network.now c.args.way c.args.from.now c.beside-near.result.now c.loop-stop.stop-index nowhere c.is_same_tap.result c.requires.sound c.requires.network c.requires.from c.beside-near.ensures c.loop-stop-test.true c.is_same_tap.ensures c.if-is_same_tap.false in
    record {
      best =
          station_more c.args.layout.now c.args.way c.args.from.now.tap c.beside-near.result.now c.loop-stop.stop-index nowhere c.loop-stop.best c.lengthened.result c.step_length-step.result c.in-Station.station c.farther-best.result
          c.loop-stop-test.true c.loop-stop.invariant.best step c.in-Station.is c.step_length-step.ensures c.lengthened.ensures c.farther-best.ensures;
      table = c.loop-stop.invariant.table;
    }

pub overflow_sub-room : goal.overflow_sub-room
overflow_sub-room t c =
    let step : IsStep c.args.layout.now c.args.way c.args.from.now.tap (get_or c.beside-near.result.now c.loop-stop.stop-index nowhere).tap =
    next_step c.args.layout.now c.args.network.now c.args.way c.args.from.now c.beside-near.result.now c.loop-stop.stop-index nowhere c.is_same_tap.result c.requires.sound c.requires.network c.requires.from c.beside-near.ensures c.loop-stop-test.true c.is_same_tap.ensures c.if-is_same_tap.false in
    (room_on c.args.layout.now c.args.way c.args.from.now.tap (get_or c.beside-near.result.now c.loop-stop.stop-index nowhere).tap c.args.room c.requires.room step).0

pub farthest-there-requires : goal.farthest-there-requires
farthest-there-requires t c =
    let step : IsStep c.args.layout.now c.args.way c.args.from.now.tap (get_or c.beside-near.result.now c.loop-stop.stop-index nowhere).tap =
    next_step c.args.layout.now c.args.network.now c.args.way c.args.from.now c.beside-near.result.now c.loop-stop.stop-index nowhere c.is_same_tap.result c.requires.sound c.requires.network c.requires.from c.beside-near.ensures c.loop-stop-test.true c.is_same_tap.ensures c.if-is_same_tap.false in
    let on = room_on c.args.layout.now c.args.way c.args.from.now.tap (get_or c.beside-near.result.now c.loop-stop.stop-index nowhere).tap c.args.room c.requires.room step in
    let stands = (beside_at c.args.layout.now c.args.network.now c.args.way c.args.from.now c.beside-near.result.now c.loop-stop.stop-index nowhere c.requires.sound c.requires.network c.requires.from c.beside-near.ensures c.loop-stop-test.true).stands in
    let room : HasRoom c.args.layout.now c.other_way.result (get_or c.beside-near.result.now c.loop-stop.stop-index nowhere).tap (c.args.room - 1) = subst (λ (w : Way). HasRoom c.args.layout.now w (get_or c.beside-near.result.now c.loop-stop.stop-index nowhere).tap (c.args.room - 1)) (sym c.other_way.ensures) on.1 in
    (omega (arith, on.0), (c.requires.sound, (c.requires.network, (c.loop-stop.invariant.table, (stands, (room, omega arith))))))

pub lengthened-requires-in-loop-stop : goal.lengthened-requires-in-loop-stop
lengthened-requires-in-loop-stop t c = λ x is.
    let step : IsStep c.args.layout.now c.args.way c.args.from.now.tap (get_or c.beside-near.result.now c.loop-stop.stop-index nowhere).tap =
    next_step c.args.layout.now c.args.network.now c.args.way c.args.from.now c.beside-near.result.now c.loop-stop.stop-index nowhere c.is_same_tap.result c.requires.sound c.requires.network c.requires.from c.beside-near.ensures c.loop-stop-test.true c.is_same_tap.ensures c.if-is_same_tap.false in
    sum_fits c.args.layout.now c.args.way c.other_way.result c.args.from.now.tap (get_or c.beside-near.result.now c.loop-stop.stop-index nowhere).tap c.args.room c.step_length-step.result c.in_default.field-0 c.in_default.field-1 c.farthest-there.result x
    c.requires.sound c.requires.room c.requires.most step c.other_way.ensures c.in_default.is c.farthest-there.ensures.far c.step_length-step.ensures is

pub loop-stop-preserved : goal.loop-stop-preserved
loop-stop-preserved t c =
    let step : IsStep c.args.layout.now c.args.way c.args.from.now.tap (get_or c.beside-near.result.now c.loop-stop.stop-index nowhere).tap =
    next_step c.args.layout.now c.args.network.now c.args.way c.args.from.now c.beside-near.result.now c.loop-stop.stop-index nowhere c.is_same_tap.result c.requires.sound c.requires.network c.requires.from c.beside-near.ensures c.loop-stop-test.true c.is_same_tap.ensures c.if-is_same_tap.false in
    record {
      best =
          port_more c.args.layout.now c.args.way c.other_way.result c.args.from.now.tap c.beside-near.result.now c.loop-stop.stop-index nowhere c.loop-stop.best c.lengthened-in-loop-stop.result c.step_length-step.result c.in_default.field-0 c.in_default.field-1 c.farthest-there.result c.farther-best-in-loop-stop.result
          c.loop-stop-test.true c.loop-stop.invariant.best step c.other_way.ensures c.in_default.is c.farthest-there.ensures.far c.step_length-step.ensures c.lengthened-in-loop-stop.ensures c.farther-best-in-loop-stop.ensures;
      table = c.farthest-there.ensures.table;
    }

pub returns-clause-far : goal.returns-clause-far
returns-clause-far t c =
    onward_from c.args.layout.now c.args.network.now c.args.way c.args.from.now c.beside-near.result.now c.loop-stop.stop-index c.loop-stop.best c.requires.sound c.requires.network c.requires.from c.beside-near.ensures c.loop-stop-test.false c.loop-stop.invariant.best

pub returns-clause-table : goal.returns-clause-table
returns-clause-table t c =
    right_more c.args.layout.now c.loop-stop.table c.set_entry.new.table c.args.way c.args.from.now c.loop-stop.best c.requires.sound c.requires.from c.loop-stop.invariant.table
    (onward_from c.args.layout.now c.args.network.now c.args.way c.args.from.now c.beside-near.result.now c.loop-stop.stop-index c.loop-stop.best c.requires.sound c.requires.network c.requires.from c.beside-near.ensures c.loop-stop-test.false c.loop-stop.invariant.best)
    c.set_entry.ensures

pub returns-in-Found-clause-far : goal.returns-in-Found-clause-far
returns-in-Found-clause-far t c = right_found c.args.layout.now c.args.table.now c.args.way c.args.from.now c.entry_of.result c.in-Found.far c.requires.sound c.requires.from c.requires.table c.entry_of.ensures c.in-Found.is
