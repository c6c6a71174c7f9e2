use Rattle.std.proofs.Common.{◌≡◌, ℕ, ◌+◌, ◌<◌, length, slice_index_or}
use Rattle.manchester_line.specs.declared.Sym.TheVariants.{Idle}
use Rattle.mac_transmit.specs.Sender.{line_at}
use Rattle.segment_engine.proofs.sendings.write_symbols.Given as goal

-- the symbols below j are written
abbrev pub invariant-loop-j : goal.invariant-loop-j
invariant-loop-j l = record {
  len : length l.piece ≡ length l.fn.piece;
  text : (i : ℕ) → i < l.j → slice_index_or l.piece i Idle ≡ line_at l.octets (l.p + i);
}
