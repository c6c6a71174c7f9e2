use Rattle.std.proofs.Common.{◌≡◌, take}
use Rattle.std.specs.List.{All}
use Rattle.repeater_core.specs.Counts.{resting_count}
use Rattle.repeater_core.proofs.calm.counts_fresh.Given as goal

abbrev pub invariant-loop-count : goal.invariant-loop-count
invariant-loop-count l = All (λ c. c ≡ resting_count 0) (take l.count-index l.counts)
