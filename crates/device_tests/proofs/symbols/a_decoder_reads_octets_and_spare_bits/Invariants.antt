use Rattle.std.proofs.Common.{◌*◌, ◌≤◌}
use Rattle.device_tests.proofs.symbols.a_decoder_reads_octets_and_spare_bits.Given as goal

abbrev pub invariant-loop-bit : goal.invariant-loop-bit
invariant-loop-bit g l = l.decoder.halves ≤ 2 * l.bit-index
