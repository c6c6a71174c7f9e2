use Rattle.std.proofs.Common.{◌≡◌, ℕ, ◌+◌, ◌<◌, ◌≤◌, length, slice_index_or}
use Rattle.net_parts.specs.declared.parcel.Parcel.{Parcel}
use Rattle.segment_engine.specs.SteadyPieces.{with_piece_at}
use Rattle.tap_lines.specs.TapLines.{heard_for}
use Rattle.segment_engine.proofs.steady.put_all.Given as goal

-- the parcels below p are filled, and the others are not
abbrev pub invariant-loop-p : goal.invariant-loop-p
invariant-loop-p l = record {
  piece_len : length l.piece ≡ length l.fn.piece;
  len : length l.parcels ≡ length l.fn.parcels;
  done : (q : ℕ) (d : Parcel) → q < l.p → slice_index_or l.parcels q d ≡ with_piece_at l.k (heard_for l.lookahead l.t (length l.fn.piece) l.lines (l.from + q)) (slice_index_or l.fn.parcels q d);
  left : (q : ℕ) (d : Parcel) → l.p ≤ q → slice_index_or l.parcels q d ≡ slice_index_or l.fn.parcels q d;
}
