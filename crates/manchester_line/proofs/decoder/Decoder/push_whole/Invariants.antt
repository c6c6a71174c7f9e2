use Rattle.std.proofs.Common.{◌≡◌, ◌+◌, ◌-◌, ◌%◌, ◌≤◌, None, length, drop}
use Rattle.manchester_line.specs.Decoding.{all_pushed}
use Rattle.manchester_line.proofs.decoder.Decoder.push_whole.Given as goal

abbrev pub invariant-loop-at : goal.invariant-loop-at
invariant-loop-at l = record {
  within : l.at ≤ length l.halves;
  even : l.at % 2 ≡ 0;
  half : l.self.half ≡ None;
  counted : l.self.halves ≡ l.fn.self.halves + l.at;
  rest : all_pushed l.self (drop l.at l.halves) ≡ all_pushed l.fn.self l.halves;
}

abbrev pub decreases-loop-at : goal.decreases-loop-at
decreases-loop-at l = length l.halves - l.at
