use Rattle.std.proofs.Common.{◌≡◌, ◌≤◌, min, drop}
use Rattle.repeater_core.specs.Limits.{most_calm}
use Rattle.repeater_core.specs.SilentParts.{ports_calm}
use Rattle.repeater_core.proofs.calm.ports_calm.Given as goal

abbrev pub invariant-loop-k : goal.invariant-loop-k
invariant-loop-k l = record {
  so_far : min l.calm (ports_calm l.mode l.k (drop l.k l.counts)) ≡ ports_calm l.mode 0 l.counts;
  at_most : l.calm ≤ most_calm;
}
