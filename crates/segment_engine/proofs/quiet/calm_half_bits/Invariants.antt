use Rattle.std.proofs.Common.{◌≡◌, ℕ, ◌<◌, ◌≤◌, All, slice_index_or}
use Rattle.mac_receive.specs.KeptReceiver.{KeptReception}
use Rattle.mac_transmit.specs.Sender.{Sender}
use Rattle.segment_engine.specs.QuietHalfBits.{IsCalmFor}
use Rattle.segment_engine.proofs.quiet.calm_half_bits.Given as goal

-- those so far are at rest, and calm for so long and no longer
abbrev pub invariant-loop-k : goal.invariant-loop-k
invariant-loop-k l = record {
  within : l.calm ≤ l.most;
  calm : (q : ℕ) (d : Sender) → q < l.k → IsCalmFor l.calm (slice_index_or l.senders q d);
  rest : (q : ℕ) (d : KeptReception) → q < l.k → (slice_index_or l.receivers q d).halves ≡ 0;
  greatest : (n : ℕ) → n ≤ l.most → All (IsCalmFor n) l.senders → n ≤ l.calm;
}
