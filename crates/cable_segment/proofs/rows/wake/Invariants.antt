use Rattle.std.proofs.Common.{◌≡◌, ℕ, ◌<◌, ◌≤◌, min, get_or}
use Rattle.cable_segment.proofs.rows.wake.Given as goal

abbrev pub invariant-loop-q : goal.invariant-loop-q
invariant-loop-q l = record {
  below : (k : ℕ) → k < l.q → get_or l.next k 0 ≡ min (get_or l.fn.next k 0) l.tap;
  above : (k : ℕ) → l.q ≤ k → get_or l.next k 0 ≡ get_or l.fn.next k 0;
}
