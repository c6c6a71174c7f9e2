use Rattle.std.proofs.Common.{ℕ, ◌<◌, ◌≤◌, slice_index_or}
use Rattle.repeater_core.specs.Calm.{IsCalm}
use Rattle.repeater_core.specs.Step.{RepeaterDevice}
use Rattle.net_step.proofs.leaps.calm_relays.Given as goal

-- nothing happens at those so far for so long
abbrev pub invariant-loop-relay : goal.invariant-loop-relay
invariant-loop-relay l = record {
  within : l.calm ≤ l.most;
  so_far : (q : ℕ) (d : RepeaterDevice) → q < l.relay-index → IsCalm (slice_index_or l.relays q d) l.calm;
}
