use Rattle.std.proofs.Common.{◌≡◌, ℕ, ◌<◌, length, get_or}
use Rattle.tap_lines.specs.TapLines.{TapLine}
use Rattle.segment_engine.specs.NewLines.{IsNewLine, new_delay}
use Rattle.segment_engine.proofs.start.lines_of.Given as goal

abbrev pub invariant-loop-r : goal.invariant-loop-r
invariant-loop-r l = record {
  count : length l.lines.items ≡ l.r;
  each : (q : ℕ) (d : TapLine) → q < l.r → IsNewLine (get_or l.places q 0) (new_delay l.stations l.lookahead l.edges l.delays q) l.width l.lookahead (get_or l.lines.items q d);
}
