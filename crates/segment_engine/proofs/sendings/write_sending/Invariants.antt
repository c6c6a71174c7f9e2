use Rattle.std.proofs.Common.{◌≡◌, ℕ, ◌+◌, ◌<◌, true, length, slice_index_or}
use Rattle.manchester_line.specs.declared.Sym.TheVariants.{Idle}
use Rattle.manchester_line.specs.Line.{is_signal}
use Rattle.mac_transmit.specs.Sender.{symbol_of}
use Rattle.segment_engine.proofs.sendings.write_sending.Given as goal

-- the symbols below j are written, and are a signal
abbrev pub invariant-loop-j : goal.invariant-loop-j
invariant-loop-j l = record {
  len : length l.piece ≡ length l.fn.piece;
  text : (i : ℕ) → i < l.j → slice_index_or l.piece i Idle ≡ symbol_of l.octets l.hit (l.p + i);
  signal : (i : ℕ) → i < l.j → is_signal (symbol_of l.octets l.hit (l.p + i)) ≡ true;
}
