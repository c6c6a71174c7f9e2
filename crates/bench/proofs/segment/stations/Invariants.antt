use Rattle.std.proofs.Common.{◌≡◌, All, length}
use Rattle.bench.proofs.segment.stations.Given as goal

abbrev pub invariant-loop-number : goal.invariant-loop-number
invariant-loop-number l = record { times : All (λ s. s.t ≡ 0) l.stations.items; count : length l.stations.items ≡ l.number }
