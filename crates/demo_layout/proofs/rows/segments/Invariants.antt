use Rattle.std.proofs.Common.{◌≡◌, map}
use Rattle.std.specs.List.{range_with_len}
use Rattle.demo_layout.specs.Demo.{demo_segment}
use Rattle.demo_layout.proofs.rows.segments.Given as goal

abbrev pub invariant-loop-place : goal.invariant-loop-place
invariant-loop-place l = l.rows ≡ map demo_segment (range_with_len 0 l.place)
