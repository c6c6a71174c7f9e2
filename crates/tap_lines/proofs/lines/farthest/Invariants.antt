use Rattle.std.proofs.Common.{ℕ, ◌<◌, ◌≤◌, slice_index_or}
use Rattle.tap_lines.specs.TapLines.{TapLine}
use Rattle.tap_lines.proofs.lines.farthest.Given as goal

-- the lines so far are within these bounds
abbrev pub invariant-loop-line : goal.invariant-loop-line
invariant-loop-line l = record {
  high_fits : l.high < 4294967296;
  longest_fits : l.longest < 4294967296;
  least : (q : ℕ) (d : TapLine) → q < l.line-index → l.low ≤ (slice_index_or l.lines q d).at;
  most : (q : ℕ) (d : TapLine) → q < l.line-index → (slice_index_or l.lines q d).at ≤ l.high;
  late : (q : ℕ) (d : TapLine) → q < l.line-index → (slice_index_or l.lines q d).delay ≤ l.longest;
}
