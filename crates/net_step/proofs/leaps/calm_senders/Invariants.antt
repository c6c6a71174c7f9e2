use Rattle.std.proofs.Common.{ℕ, ◌<◌, ◌≤◌, slice_index_or}
use Rattle.mac_transmit.specs.Sender.{Sender}
use Rattle.net_step.specs.CalmNets.{WaitsFor}
use Rattle.net_step.proofs.leaps.calm_senders.Given as goal

-- those so far wait for so long
abbrev pub invariant-loop-sender : goal.invariant-loop-sender
invariant-loop-sender l = record {
  within : l.calm ≤ l.most;
  so_far : (q : ℕ) (d : Sender) → q < l.sender-index → WaitsFor l.calm (slice_index_or l.senders q d);
}
