use Rattle.std.proofs.Common.{◌≡◌, ◌++◌, drop}
use Rattle.path_checker.specs.Stops.{repeater_lists}
use Rattle.path_checker.proofs.stops.repeater_lists.Given as goal

abbrev pub invariant-loop-k : goal.invariant-loop-k
invariant-loop-k l = repeater_lists 0 l.repeaters ≡ l.lists ++ repeater_lists l.k (drop l.k l.repeaters)
