use Rattle.std.proofs.Common.{◌≡◌, ◌+◌, ◌*◌, take, drop}
use Rattle.manchester_line.specs.Line.{line}
use Rattle.mac_parameters.specs.Parameters.{preamble_length, half_bits_an_octet}
use Rattle.manchester_line.proofs.line.encode_into.Given as goal

abbrev pub invariant-loop-octet : goal.invariant-loop-octet
invariant-loop-octet l = record {
  at : l.at ≡ preamble_length + half_bits_an_octet * l.octet-index;
  text : take l.at l.out ≡ line (take l.octet-index l.octets);
  rest : drop l.at l.out ≡ drop l.at l.fn.out;
}
