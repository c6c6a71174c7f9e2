use Rattle.layout.specs.declared.ways.Attachment.TheVariants.{Station}
use Rattle.path_checker.specs.declared.stops.Stop.{Stop}
use Rattle.path_slack.proofs.BranchesSoFar.{branched_none, branched_more, branched_all, stop_stands}
use Rattle.path_slack.proofs.branches.branches_of.Goals as goal

abbrev nowhere : Stop
nowhere = record { tap = Station 0; segment = 0; at = 0 }

pub loop-stop-init : goal.loop-stop-init
loop-stop-init c = record { list = rw c.new-list.ensures (branched_none c.args.layout.now); table = c.requires.table }

pub off_cable-far-requires-clause-stop : goal.off_cable-far-requires-clause-stop
off_cable-far-requires-clause-stop c =
    stop_stands c.args.layout.now c.args.network.now c.requires.sound c.requires.network c.args.segment c.taps_on-stops.result.now c.taps_on-stops.ensures c.loop-stop.stop-index nowhere c.loop-stop-test.true

pub loop-stop-preserved : goal.loop-stop-preserved
loop-stop-preserved c = record {
  list = branched_more c.args.layout.now c.taps_on-stops.result.now c.loop-stop.list c.push.new.self c.loop-stop.stop-index nowhere c.off_cable-far.result c.loop-stop-test.true c.loop-stop.invariant.list c.off_cable-far.ensures.far c.in_ok-push.ensures.ok;
  table = c.off_cable-far.ensures.table;
}

pub returns-clause-list : goal.returns-clause-list
returns-clause-list c =
    branched_all c.args.layout.now c.args.network.now c.requires.sound c.requires.network c.args.segment c.taps_on-stops.result.now c.taps_on-stops.ensures c.loop-stop.list c.loop-stop.stop-index c.loop-stop-test.false c.loop-stop.invariant.list
