use Rattle.std.proofs.Common.{◌≡◌, ◌++◌, All, length, drop}
use Rattle.network.specs.Net.{new_senders}
use Rattle.net_step.proofs.devices.new_transmitters.Given as goal

abbrev pub invariant-loop-k : goal.invariant-loop-k
invariant-loop-k l = record {
  count : length l.senders.items ≡ l.k;
  times : All (λ s. s.t ≡ 0) l.senders.items;
  senders : l.senders.items ++ new_senders l.seed l.k (drop l.k l.queues) ≡ new_senders l.seed 0 l.queues;
}
