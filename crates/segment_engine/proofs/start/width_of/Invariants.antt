use Rattle.std.proofs.Common.{ℕ, ◌<◌, ◌≤◌, get_or}
use Rattle.segment_engine.proofs.start.width_of.Given as goal

-- the places so far are within these bounds
abbrev pub invariant-loop-place : goal.invariant-loop-place
invariant-loop-place l = record {
  high_fits : l.high < 4294967296;
  least : (q : ℕ) → q < l.place-index → l.low ≤ get_or l.places q 0;
  most : (q : ℕ) → q < l.place-index → get_or l.places q 0 ≤ l.high;
}
