use Rattle.std.proofs.Common.{◌≡◌, ◌++◌, length, map, take, drop}
use Rattle.std.specs.Fn.{iterate}
use Rattle.repeater_core.specs.SilentParts.{silent_count}
use Rattle.repeater_core.proofs.calm.silent_counts.Given as goal

abbrev pub invariant-loop-count : goal.invariant-loop-count
invariant-loop-count l = record {
  len : length l.counts ≡ length l.fn.counts;
  states : take l.count-index l.counts ++ map (λ c. iterate silent_count l.n c) (drop l.count-index l.counts) ≡ map (λ c. iterate silent_count l.n c) l.fn.counts;
}
