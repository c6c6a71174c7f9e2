use Rattle.std.proofs.Common.{◌≡◌, [], map}
use Rattle.std.specs.List.{range_with_len}
use Rattle.run_checkpoint.proofs.told.nothing_told.Given as goal

abbrev pub invariant-stations : goal.invariant-stations
invariant-stations l =
    record {
      captures : l.captures.items ≡ map (λ k. []) (range_with_len 0 l._k);
      ended : l.ended.items ≡ map (λ k. 0) (range_with_len 0 l._k);
    }
