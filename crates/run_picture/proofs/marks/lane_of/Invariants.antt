use Rattle.std.proofs.Common.{◌≡◌, drop}
use Rattle.run_picture.specs.Marks.{lane_of}
use Rattle.run_picture.proofs.marks.lane_of.Given as goal

abbrev pub invariant-loop-lane : goal.invariant-loop-lane
invariant-loop-lane l = lane_of (drop l.lane-index l.lanes) l.tap ≡ lane_of l.lanes l.tap
