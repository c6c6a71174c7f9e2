use Rattle.std.proofs.Common.{◌≡◌, ℕ, ◌<◌, ◌≤◌, length, slice_index_or}
use Rattle.mac_receive.specs.KeptReceiver.{KeptReception}
use Rattle.mac_transmit.specs.Sender.{Sender}
use Rattle.segment_engine.specs.declared.apart.Watch.{Watch}
use Rattle.segment_engine.specs.QuietHalfBits.{HasLeapt}
use Rattle.segment_engine.proofs.quiet.leap_all.Given as goal

-- the stations so far have leapt, and the others have not
abbrev pub invariant-loop-k : goal.invariant-loop-k
invariant-loop-k l = record {
  watched : length l.watches ≡ length l.fn.watches;
  senders_len : length l.senders ≡ length l.fn.senders;
  receivers_len : length l.receivers ≡ length l.fn.receivers;
  done : (i : ℕ) (w : Watch) (s s' : Sender) (r r' : KeptReception) → i < l.k → HasLeapt l.t l.count (slice_index_or l.watches i w) (slice_index_or l.fn.senders i s) (slice_index_or l.senders i s')
      (slice_index_or l.fn.receivers i r) (slice_index_or l.receivers i r');
  senders_left : (i : ℕ) (s : Sender) → l.k ≤ i → slice_index_or l.senders i s ≡ slice_index_or l.fn.senders i s;
  receivers_left : (i : ℕ) (r : KeptReception) → l.k ≤ i → slice_index_or l.receivers i r ≡ slice_index_or l.fn.receivers i r;
}
