use Rattle.std.proofs.Common.{◌≡◌, ◌++◌, map, take}
use Rattle.net_step.proofs.relay.Relay.list_rests.Given as goal

abbrev pub invariant-loop-port : goal.invariant-loop-port
invariant-loop-port l = l.rests ≡ l.fn.rests ++ map (λ c. c.rest) (take l.port l.self-inside.repeater.counts)
