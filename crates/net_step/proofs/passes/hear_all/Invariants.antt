use Rattle.std.proofs.Common.{◌≡◌, map, take}
use Rattle.net_step.specs.Wires.{heard_at_place}
use Rattle.net_step.proofs.passes.hear_all.Given as goal

-- the taps below k have heard
abbrev pub invariant-loop-k : goal.invariant-loop-k
invariant-loop-k l = take l.k l.heard ≡ map (heard_at_place l.segments) (take l.k l.places)
