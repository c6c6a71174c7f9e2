use Rattle.std.proofs.Common.{◌≡◌, map}
use Rattle.std.specs.List.{range_with_len}
use Rattle.demo_layout.specs.Demo.{demo_station}
use Rattle.demo_layout.proofs.rows.stations.Given as goal

abbrev pub invariant-loop-place : goal.invariant-loop-place
invariant-loop-place l = l.rows ≡ map demo_station (range_with_len 0 l.place)
