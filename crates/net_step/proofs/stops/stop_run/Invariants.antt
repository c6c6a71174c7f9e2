use Rattle.std.proofs.Common.{◌≡◌, ◌<◌, ◌≤◌, ℕ}
use Rattle.network.specs.Net.{net}
use Rattle.quiet_state.specs.Quiet.{IsQuiet}
use Rattle.net_step.specs.KeptNet.{Stands}
use Rattle.net_step.proofs.stops.stop_run.Given as goal

-- no half bit so far was quiet
abbrev pub invariant-loop-t : goal.invariant-loop-t
invariant-loop-t l = record {
  reached : l.begin ≤ l._t;
  time : l.whole.t ≡ l._t;
  stands : Stands (net l.plan l._t) l.whole;
  none : (u : ℕ) → l.from ≤ u → u < l._t → IsQuiet l.plan u → ⊥;
}
