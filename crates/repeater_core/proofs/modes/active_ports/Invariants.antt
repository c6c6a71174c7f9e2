use Rattle.std.proofs.Common.{◌≡◌, drop}
use Rattle.repeater_core.specs.Modes.{joined, activity_from}
use Rattle.repeater_core.proofs.modes.active_ports.Given as goal

abbrev pub invariant-loop-k : goal.invariant-loop-k
invariant-loop-k l = joined l.active (activity_from l.k (drop l.k l.guards) (drop l.k l.hears)) ≡ activity_from 0 l.guards l.hears
