use Rattle.std.proofs.Common.{◌≡◌, All, length}
use Rattle.layout.specs.Sound.{IsSoundSend}
use Rattle.network_tests.proofs.sends.sends.Given as goal

abbrev pub invariant-loop-at : goal.invariant-loop-at
invariant-loop-at l = (length l.sends ≡ l.at) × All (IsSoundSend 1 2) l.sends
