use Rattle.std.proofs.Common.{◌≡◌, ◌≤◌, ◌-◌, ◌%◌, length, take}
use Rattle.mac_parameters.specs.Parameters.{half_bits_an_octet}
use Rattle.mac_transmit.specs.Sender.{line_at}
use Rattle.net_parts.specs.Machines.{span}
use Rattle.segment_engine.proofs.sendings.write_octets.Given as goal

-- the octets before `at` are written
abbrev pub invariant-loop-at : goal.invariant-loop-at
invariant-loop-at l = record {
  len : length l.piece ≡ length l.fn.piece;
  whole : l.at % half_bits_an_octet ≡ 0;
  within : l.at ≤ length l.fn.piece;
  text : take l.at l.piece ≡ span (line_at l.octets) l.p l.at;
}

abbrev pub decreases-loop-at : goal.decreases-loop-at
decreases-loop-at l = length l.fn.piece - l.at
