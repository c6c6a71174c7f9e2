use Rattle.std.proofs.Common.{◌≡◌, ◌++◌, length, map, take, drop}
use Rattle.repeater_core.specs.Counts.{choices_from}
use Rattle.repeater_core.proofs.steady.decide_row.Given as goal

abbrev pub invariant-loop-k : goal.invariant-loop-k
invariant-loop-k l = record {
  len : length l.decided ≡ length l.counts;
  symbols : take l.k l.decided ++ map (λ c. c.symbol) (choices_from l.mode l.hears l.k (drop l.k l.counts)) ≡ map (λ c. c.symbol) (choices_from l.mode l.hears 0 l.counts);
}
