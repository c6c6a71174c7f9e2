use Rattle.std.proofs.Common.{◌≡◌, ◌++◌, drop, length, replicate}
use Rattle.std.specs.List.{flat_map}
use Rattle.layout.proofs.taps.delays_of.Given as goal

abbrev pub invariant-loop-repeater : goal.invariant-loop-repeater
invariant-loop-repeater l = l.delays.items ++ flat_map (λ r. replicate (length r.ports) r.delay) (drop l.repeater-index l.repeaters) ≡ flat_map (λ r. replicate (length r.ports) r.delay) l.repeaters
