use Rattle.std.proofs.Common.{◌≡◌, map, take}
use Rattle.quiet_state.specs.LastSignals.{reach_over}
use Rattle.net_step.proofs.settling.reaches_of.Given as goal

abbrev pub invariant-loop-tap : goal.invariant-loop-tap
invariant-loop-tap l = l.reaches.items ≡ map (λ x. reach_over x l.taps) (take l.tap-index l.taps)
