use Rattle.std.proofs.Common.{◌≡◌, ℕ, ◌+◌, ◌-◌, ◌*◌, ◌<◌, ◌≤◌, length, slice_index_or}
use Rattle.tap_lines.specs.TapLines.{IsReachOf, no_line}
use Rattle.tap_lines.specs.TapLists.{AreIdleButFor}
use Rattle.segment_engine.specs.StationsApart.{AreToldAnew, TellsUpTo, CoversApart, most_told}
use Rattle.segment_engine.proofs.StepPasses.{HaveMade}
use Rattle.segment_engine.proofs.due.step_all.Given as goal

-- the stations below k have made half bit u, or go on beyond it
abbrev pub invariant-loop-k : goal.invariant-loop-k
invariant-loop-k l = record {
  watches : length l.of.stations.items ≡ length l.watches;
  senders : length l.senders ≡ length l.of.stations.items;
  receivers : length l.receivers ≡ length l.of.stations.items;
  captures : length l.room.captures ≡ length l.of.stations.items;
  piece_len : length l.piece ≡ length l.fn.piece;
  within : l.k ≤ length l.watches;
  reach : IsReachOf l.far l.of.lookahead l.lines;
  loud : AreIdleButFor (l.t - l.far) l.lines l.loud.taps;
  late : AreIdleButFor (l.from - l.far) l.lines l.late.taps;
  loud_room : l.loud.room ≡ l.fn.loud.room;
  late_room : l.late.room ≡ l.fn.late.room;
  lines : AreToldAnew l.u (length l.of.stations.items) l.fn.lines l.lines;
  tell : (r : ℕ) → r < length l.of.stations.items → TellsUpTo l.u (l.u + 1 + most_told) (slice_index_or l.lines r no_line);
  made : HaveMade l.of l.from l.u ((l.window + 1) * l.of.lookahead) l.k l.lines l.watches l.senders l.receivers l.fn.room.rows l.room.rows l.fn.room.captures l.room.captures;
  left : (e : ℕ) → l.u < e → CoversApart e (length l.of.stations.items) l.fn.watches l.fn.senders l.fn.receivers l.fn.room →
      CoversApart e (length l.of.stations.items) l.watches l.senders l.receivers l.room;
}

abbrev pub decreases-loop-k : goal.decreases-loop-k
decreases-loop-k l = length l.watches - l.k
