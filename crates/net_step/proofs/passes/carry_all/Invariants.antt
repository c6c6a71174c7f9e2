use Rattle.std.proofs.Common.{◌≡◌, ◌<◌, ◌++◌, All, length, map, take, drop}
use Rattle.net_step.specs.Wires.{carried}
use Rattle.net_step.proofs.passes.carry_all.Given as goal

-- the segments so far have carried, and the rest have not
abbrev pub invariant-loop-segment : goal.invariant-loop-segment
invariant-loop-segment l = record {
  known : All (λ w. All (λ q. q < length l.emitted) w.taps) l.segments;
  wires : take l.segment-index l.segments ++ map (carried l.emitted) (drop l.segment-index l.segments) ≡ map (carried l.emitted) l.fn.segments;
}
