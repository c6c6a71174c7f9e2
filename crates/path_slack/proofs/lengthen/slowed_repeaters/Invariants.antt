use Rattle.std.proofs.Common.{◌≡◌, ◌++◌, drop}
use Rattle.path_slack.specs.Lengthened.{slowed_from}
use Rattle.path_slack.proofs.lengthen.slowed_repeaters.Given as goal

abbrev pub invariant-loop-k : goal.invariant-loop-k
invariant-loop-k l = slowed_from 0 l.slow l.by l.repeaters ≡ l.slowed ++ slowed_from l.k l.slow l.by (drop l.k l.repeaters)
