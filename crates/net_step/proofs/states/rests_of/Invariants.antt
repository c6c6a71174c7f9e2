use Rattle.std.proofs.Common.{◌≡◌, map, take}
use Rattle.std.specs.List.{flat_map}
use Rattle.net_step.proofs.states.rests_of.Given as goal

abbrev pub invariant-loop-relay : goal.invariant-loop-relay
invariant-loop-relay l = l.rests ≡ flat_map (λ r. map (λ c. c.rest) r.counts) (take l.relay-index l.relays)
