use Rattle.std.proofs.Common.{◌≡◌, map, take}
use Rattle.repeater_core.specs.Counts.{resting_count}
use Rattle.repeater_core.proofs.counts.resting_counts.Given as goal

abbrev pub invariant-loop-rest : goal.invariant-loop-rest
invariant-loop-rest l = l.counts.items ≡ map resting_count (take l.rest-index l.rests)
