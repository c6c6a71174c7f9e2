use Rattle.std.proofs.Common.{◌≡◌, ℕ, ◌<◌, ◌≤◌, length, slice_index_or}
use Rattle.mac_receive.specs.KeptReceiver.{KeptReception}
use Rattle.mac_transmit.specs.Sender.{Sender}
use Rattle.net_parts.specs.SegmentParts.{wiring}
use Rattle.segment_engine.specs.declared.apart.Watch.{Watch}
use Rattle.segment_engine.specs.StationsApart.{StandsApart}
use Rattle.segment_engine.proofs.ArrivedLines.{HaveArrived}
use Rattle.segment_engine.proofs.apart.arrive.Given as goal

-- what came in for the ports below p is on their lines, and no station goes on too far
abbrev pub invariant-loop-p : goal.invariant-loop-p
invariant-loop-p l = record {
  came : HaveArrived l.of.plan.value (wiring l.of.plan.value.layout l.of.number) l.of.lookahead l.t l.of.lookahead l.p l.fn.state.lines.items l.lines;
  watched : length l.watches ≡ length l.fn.state.watches.items;
  stands : (i : ℕ) (w : Watch) (s : Sender) (k : KeptReception) → i < length l.of.stations.items →
      StandsApart l.of l.fn.state.from l.t i l.lines (slice_index_or l.watches i w) (slice_index_or l.fn.state.senders.items i s) (slice_index_or l.fn.state.receivers.items i k);
  since : (i : ℕ) (w : Watch) → i < length l.watches → (slice_index_or l.watches i w).since ≡ (slice_index_or l.fn.state.watches.items i w).since;
  carrier : (i : ℕ) (w : Watch) → i < length l.watches → (slice_index_or l.watches i w).carrier ≡ (slice_index_or l.fn.state.watches.items i w).carrier;
  until : (i : ℕ) (w : Watch) → i < length l.watches → (slice_index_or l.watches i w).until ≤ (slice_index_or l.fn.state.watches.items i w).until;
}
