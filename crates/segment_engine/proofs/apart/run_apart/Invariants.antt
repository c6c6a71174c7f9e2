use Rattle.std.proofs.Common.{◌≡◌, ℕ, ◌+◌, ◌-◌, ◌*◌, ◌<◌, ◌≤◌, map, length, slice_index_or}
use Rattle.net_parts.specs.SegmentParts.{wiring}
use Rattle.net_parts.specs.Standing.{captures_at, rows_of_devices}
use Rattle.tap_lines.specs.TapLines.{IsReachOf, no_line}
use Rattle.tap_lines.specs.TapLists.{AreIdleButFor}
use Rattle.segment_engine.specs.KnownLines.{KnowLines}
use Rattle.segment_engine.specs.StationsApart.{StandAllApart, AreStill, HearAllByLines, AreToldAnew, TellsUpTo, CoversApart, most_told}
use Rattle.segment_engine.proofs.apart.run_apart.Given as goal

-- the stations stand apart, at half bit u, and their lines are right below it
abbrev pub invariant-loop-u : goal.invariant-loop-u
invariant-loop-u l = record {
  after : l.t ≤ l.u;
  within : l.u ≤ l.end;
  reach : IsReachOf l.far l.of.lookahead l.lines;
  loud : AreIdleButFor (l.t - l.far) l.lines l.loud.taps;
  late : AreIdleButFor (l.from - l.far) l.lines l.late.taps;
  loud_room : l.loud.room ≡ l.fn.loud.room;
  late_room : l.late.room ≡ l.fn.late.room;
  lines : AreToldAnew l.t (length l.of.stations.items) l.fn.lines l.lines;
  apart : StandAllApart l.of l.from l.u l.lines l.watches l.senders l.receivers;
  still : AreStill l.of l.watches l.senders l.receivers;
  know : KnowLines l.of.plan.value (wiring l.of.plan.value.layout l.of.number) l.of.lookahead l.u ((l.window + 1) * l.of.lookahead) l.lines;
  right : HearAllByLines l.of l.from l.u l.lines;
  tell : (r : ℕ) → r < length l.of.stations.items → TellsUpTo l.u (l.end + most_told) (slice_index_or l.lines r no_line);
  piece_len : length l.piece ≡ length l.fn.piece;
  logged : l.room.rows ≡ rows_of_devices l.of.plan.value l.of.stations.items l.u;
  kept : l.room.captures ≡ map (λ x. captures_at l.of.plan.value x l.u) l.of.stations.items;
  left : (e : ℕ) → l.u ≤ e → CoversApart e (length l.of.stations.items) l.fn.watches l.fn.senders l.fn.receivers l.fn.room →
      CoversApart e (length l.of.stations.items) l.watches l.senders l.receivers l.room;
}

abbrev pub decreases-loop-u : goal.decreases-loop-u
decreases-loop-u l = l.end - l.u
