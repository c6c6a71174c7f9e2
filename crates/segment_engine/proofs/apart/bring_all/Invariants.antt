use Rattle.std.proofs.Common.{◌≡◌, ℕ, ◌<◌, ◌≤◌, length, slice_index_or}
use Rattle.window_room.specs.Rooms.{Room}
use Rattle.segment_engine.specs.declared.apart.Watch.{Watch}
use Rattle.segment_engine.specs.StationsApart.{AreStill, StandAllApart, CoversApart}
use Rattle.segment_engine.proofs.apart.bring_all.Given as goal

-- all stand behind, and those below k no longer
abbrev pub invariant-loop-k : goal.invariant-loop-k
invariant-loop-k l = record {
  apart : StandAllApart l.of l.from l.u l.lines l.watches l.senders l.receivers;
  still : AreStill l.of l.watches l.senders l.receivers;
  since : (i : ℕ) (w : Watch) → i < l.k → (slice_index_or l.watches i w).since ≡ l.u;
  piece_len : length l.piece ≡ length l.fn.piece;
  left : (e : ℕ) (room : Room) → l.u ≤ e → CoversApart e (length l.of.stations.items) l.fn.watches l.fn.senders l.fn.receivers room →
      CoversApart e (length l.of.stations.items) l.watches l.senders l.receivers room;
}
