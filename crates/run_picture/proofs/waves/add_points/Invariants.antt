use Rattle.std.proofs.Common.{◌≡◌, ◌++◌, drop}
use Rattle.run_picture.specs.Waves.{points_of_wave}
use Rattle.run_picture.proofs.waves.add_points.Given as goal

abbrev pub invariant-loop-lane : goal.invariant-loop-lane
invariant-loop-lane l = l.text ++ points_of_wave l.window l.t l.at (drop l.lane-index l.lanes) ≡ l.fn.text ++ points_of_wave l.window l.t l.at l.lanes
