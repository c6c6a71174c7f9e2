use Rattle.std.proofs.Common.{◌≡◌, ◌++◌, drop}
use Rattle.run_picture.specs.Bands.{lanes_text}
use Rattle.run_picture.proofs.bands.add_lanes.Given as goal

abbrev pub invariant-loop-lane : goal.invariant-loop-lane
invariant-loop-lane l = l.text ++ lanes_text l.layout (drop l.lane-index l.lanes) ≡ l.fn.text ++ lanes_text l.layout l.lanes
