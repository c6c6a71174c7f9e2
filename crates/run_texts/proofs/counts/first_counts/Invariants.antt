use Rattle.std.proofs.Common.{◌≡◌, ◌++◌, drop}
use Rattle.std.specs.Prelude.{replicate}
use Rattle.collision_log.specs.Counters.{no_counts}
use Rattle.run_texts.specs.Counts.{stations_counts}
use Rattle.run_texts.proofs.counts.first_counts.Given as goal

abbrev pub invariant-loop-k : goal.invariant-loop-k
invariant-loop-k l = stations_counts l.plan.queues l.plan.skips ≡ l.counts.items ++ stations_counts (drop l.k l.plan.queues) (drop l.k l.plan.skips)

abbrev pub invariant-loop-repeater : goal.invariant-loop-repeater
invariant-loop-repeater l = l.counts.items ≡ stations_counts l.plan.queues l.plan.skips ++ replicate l._repeater-index no_counts
