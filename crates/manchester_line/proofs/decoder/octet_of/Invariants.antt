use Rattle.std.proofs.Common.{◌≡◌, ◌*◌, drop}
use Rattle.std.specs.Option.{option_map}
use Rattle.manchester_line.specs.Decoding.{all_shifted}
use Rattle.manchester_line.specs.Reading.{bits_of}
use Rattle.manchester_line.proofs.WholeOctets.{if_whole}
use Rattle.manchester_line.proofs.decoder.octet_of.Given as goal

abbrev pub invariant-loop-j : goal.invariant-loop-j
invariant-loop-j l = if_whole l.whole (option_map (all_shifted l.octet) (bits_of (drop (2 * l.j) l.halves))) ≡ option_map (all_shifted 0) (bits_of l.halves)
