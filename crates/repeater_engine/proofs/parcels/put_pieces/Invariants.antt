use Rattle.std.proofs.Common.{◌≡◌, ◌<◌, ◌≤◌, ℕ, length, slice_index_or}
use Rattle.manchester_line.specs.declared.Sym.TheVariants.{Idle}
use Rattle.manchester_line.specs.Line.{is_signal}
use Rattle.net_parts.specs.declared.parcel.Parcel.{Parcel}
use Rattle.repeater_engine.specs.KeptRepeaters.{piece_of, with_piece}
use Rattle.repeater_engine.proofs.parcels.put_pieces.Given as goal

-- the parcels below p have their pieces, and the others are as they were
abbrev pub invariant-loop-p : goal.invariant-loop-p
invariant-loop-p l = record {
  len : length l.parcels ≡ length l.fn.parcels;
  put : (q : ℕ) (d : Parcel) → q < l.p → slice_index_or l.parcels q d ≡ with_piece l.k (piece_of (is_signal (slice_index_or l.decided q Idle)) l.sent) (slice_index_or l.fn.parcels q d);
  rest : (q : ℕ) (d : Parcel) → l.p ≤ q → slice_index_or l.parcels q d ≡ slice_index_or l.fn.parcels q d;
}
