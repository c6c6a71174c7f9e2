use Rattle.std.proofs.Common.{◌≡◌, ◌+◌, ◌*◌, None, drop}
use Rattle.manchester_line.specs.Decoding.{all_pushed}
use Rattle.manchester_line.proofs.decoder.Decoder.push_pairs.Given as goal

abbrev pub invariant-loop-j : goal.invariant-loop-j
invariant-loop-j l = record {
  half : l.self.half ≡ None;
  halves : l.self.halves ≡ l.fn.self.halves + 2 * l.j;
  rest : all_pushed l.self (drop (2 * l.j) l.halves) ≡ all_pushed l.fn.self l.halves;
}
