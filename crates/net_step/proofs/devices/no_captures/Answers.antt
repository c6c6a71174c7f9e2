use Rattle.std.proofs.Common.{List, []}
use Rattle.network.specs.declared.outputs.Taken.{Taken}
use Rattle.layout.specs.declared.lines.StationLine.{StationLine}
use Rattle.net_step.proofs.ResumedDevices.{mapped_more}
use Rattle.net_step.proofs.devices.no_captures.Goals as goal

pub loop-station-preserved : goal.loop-station-preserved
loop-station-preserved c =
    let none : StationLine → List Taken = λ s. [] in
    mapped_more none c.args.stations.now c.loop-station._station-index c._station-item.result _ _ _ c.loop-station-test.true c.loop-station.invariant c.in_ok-push.ensures.items c.new.ensures
