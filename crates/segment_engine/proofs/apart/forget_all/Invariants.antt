use Rattle.std.proofs.Common.{◌≡◌, ℕ, ◌<◌, ◌≤◌, length, slice_index_or}
use Rattle.tap_lines.specs.TapLines.{TapLine, forgotten}
use Rattle.segment_engine.proofs.apart.forget_all.Given as goal

-- the lines so far have forgotten, and the others have not
abbrev pub invariant-loop-line : goal.invariant-loop-line
invariant-loop-line l = record {
  len : length l.lines ≡ length l.fn.lines;
  done : (q : ℕ) (d : TapLine) → q < l.line-index → slice_index_or l.lines q d ≡ forgotten l.t (slice_index_or l.fn.lines q d);
  left : (q : ℕ) (d : TapLine) → l.line-index ≤ q → slice_index_or l.lines q d ≡ slice_index_or l.fn.lines q d;
}
