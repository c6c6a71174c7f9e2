use Rattle.std.proofs.Common.{◌≡◌, ◌+◌, ◌/◌, ◌%◌, [], ◌∷◌, ◌++◌, map}
use Rattle.std.specs.List.{range_with_len}
use Rattle.mac_parameters.specs.Parameters.{addresses_and_type}
use Rattle.demo_layout.proofs.sent_frames.octets.Given as goal

abbrev pub invariant-loop-k : goal.invariant-loop-k
invariant-loop-k l =
    l.octets
    ≡ (255 ∷ 255 ∷ 255 ∷ 255 ∷ 255 ∷ 255 ∷ 2 ∷ 0 ∷ 0 ∷ 0 ∷ l.station / 256 ∷ l.station % 256 ∷ 8 ∷ 0 ∷ [])
    ++ map (λ i. (i + l.station + l.j) % 256) (range_with_len addresses_and_type l.k)
