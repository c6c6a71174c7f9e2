use Rattle.std.proofs.Common.{◌≡◌, ◌≤◌, All, length}
use Rattle.mac_parameters.specs.Parameters.{greatest_place}
use Rattle.bench.proofs.segment.places.Given as goal

abbrev pub invariant-loop-number : goal.invariant-loop-number
invariant-loop-number l = record { near : All (λ p. p ≤ greatest_place) l.places.items; count : length l.places.items ≡ l.number }
