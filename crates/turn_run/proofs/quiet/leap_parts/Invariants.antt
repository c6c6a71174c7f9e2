use Rattle.std.proofs.Common.{◌≡◌, ℕ, ◌<◌, ◌≤◌, length, slice_index_or}
use Rattle.turn_run.specs.PartsInTurn.{IsLater}
use Rattle.turn_run.proofs.quiet.leap_parts.Given as goal

-- those so far stand so many windows later, and the others as they stood
abbrev pub invariant-loop-part : goal.invariant-loop-part
invariant-loop-part g l = record {
  len : length l.parts ≡ length l.fn.parts;
  done : (q : ℕ) (d : g.row.K.Denot) → q < l.part-index → IsLater g.K.Part.plan g.K.Part.number g.K.Part.at l.count (slice_index_or l.fn.parts q d) (slice_index_or l.parts q d);
  left : (q : ℕ) (d : g.row.K.Denot) → l.part-index ≤ q → slice_index_or l.parts q d ≡ slice_index_or l.fn.parts q d;
}
