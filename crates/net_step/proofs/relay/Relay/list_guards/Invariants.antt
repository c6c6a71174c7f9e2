use Rattle.std.proofs.Common.{◌≡◌, ◌++◌, take}
use Rattle.net_step.proofs.relay.Relay.list_guards.Given as goal

abbrev pub invariant-loop-port : goal.invariant-loop-port
invariant-loop-port l = l.guards ≡ l.fn.guards ++ take l.port l.self-inside.repeater.guards
