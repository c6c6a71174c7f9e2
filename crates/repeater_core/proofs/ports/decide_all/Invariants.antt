use Rattle.std.proofs.Common.{◌≡◌, ◌+◌, ◌<◌, ◌^◌, ◌++◌, length, map, take, drop}
use Rattle.repeater_core.specs.Counts.{choices_from}
use Rattle.repeater_core.specs.Step.{mask_from}
use Rattle.repeater_core.proofs.ports.decide_all.Given as goal

-- the ports below k are decided, and the rest are not
abbrev pub invariant-loop-k : goal.invariant-loop-k
invariant-loop-k l =
    let rest = choices_from l.mode l.hears l.k (drop l.k l.counts) in
    let all = choices_from l.mode l.hears 0 l.fn.counts in
    record {
      len : length l.counts ≡ length l.fn.counts;
      len_decided : length l.decided ≡ length l.fn.counts;
      states : take l.k l.counts ++ map (λ c. c.count) rest ≡ map (λ c. c.count) all;
      symbols : take l.k l.decided ++ map (λ c. c.symbol) rest ≡ map (λ c. c.symbol) all;
      below : l.halted < 2 ^ l.k;
      mask : l.halted + mask_from l.k (map (λ c. c.halted) rest) ≡ mask_from 0 (map (λ c. c.halted) all);
    }
