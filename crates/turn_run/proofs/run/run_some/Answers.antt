use Rattle.std.proofs.Common.{length, refl}
use Rattle.turn_run.proofs.ParcelsOnTheirWay.{none_gone, all_gone}
use Rattle.turn_run.proofs.run.run_some.Goals as goal

pub run_segments-requires-clause-parcels : goal.run_segments-requires-clause-parcels
run_segments-requires-clause-parcels g c κs within = none_gone c.args.plan.now c.loop-window.window c.loop-window.parcels c.loop-window.invariant.parcels

pub run_repeaters-requires-clause-parcels : goal.run_repeaters-requires-clause-parcels
run_repeaters-requires-clause-parcels g c κs within = all_gone c.args.plan.now c.loop-window.window (length c.args.plan.now.layout.segments) c.run_segments.new.parcels c.in_ok-run_segments.ensures.parcels refl
