use Rattle.std.proofs.Common.{◌≡◌, ◌<◌, ◌≤◌, ℕ, min, drop, get_or}
use Rattle.mac_parameters.specs.Parameters.{jabber_limit}
use Rattle.repeater_core.specs.Limits.{most_calm}
use Rattle.repeater_core.specs.Counts.{resting_count}
use Rattle.repeater_core.specs.Steady.{ports_steady}
use Rattle.repeater_core.proofs.steady.ports_steady.Given as goal

abbrev pub invariant-loop-k : goal.invariant-loop-k
invariant-loop-k l = record {
  so_far : min l.steady (ports_steady l.mode l.k (drop l.k l.counts)) ≡ ports_steady l.mode 0 l.counts;
  at_most : l.steady ≤ most_calm;
  within : (q : ℕ) → q < l.k → (get_or l.counts q (resting_count 0)).run ≤ jabber_limit;
}
