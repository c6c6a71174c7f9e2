use Rattle.std.proofs.Common.{◌≡◌, [], ◌∷◌}
use Rattle.device_tests.proofs.cables.what_three_taps_hear.Given as goal

abbrev pub invariant-loop-t : goal.invariant-loop-t
invariant-loop-t g l = l.cable.positions ≡ 0 ∷ 10 ∷ 20 ∷ []
