use Rattle.std.proofs.Common.{◌≡◌, ◌++◌, All, length, drop}
use Rattle.quiet_state.specs.Resumed.{resumed_senders}
use Rattle.net_step.proofs.devices.resumed_transmitters.Given as goal

abbrev pub invariant-loop-k : goal.invariant-loop-k
invariant-loop-k l = record {
  count : length l.senders.items ≡ l.k;
  times : All (λ s. s.t ≡ l.t) l.senders.items;
  senders : l.senders.items ++ resumed_senders l.seed l.t l.k (drop l.k l.queues) (drop l.k l.states) ≡ resumed_senders l.seed l.t 0 l.queues l.states;
}
