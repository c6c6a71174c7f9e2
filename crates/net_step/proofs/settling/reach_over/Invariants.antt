use Rattle.std.proofs.Common.{◌≡◌, drop, max}
use Rattle.quiet_state.specs.LastSignals.{reach_over}
use Rattle.net_step.proofs.settling.reach_over.Given as goal

-- the taps so far and those that are left
abbrev pub invariant-loop-tap : goal.invariant-loop-tap
invariant-loop-tap l = max l.reach (reach_over l.here (drop l.tap-index l.taps)) ≡ reach_over l.here l.taps
