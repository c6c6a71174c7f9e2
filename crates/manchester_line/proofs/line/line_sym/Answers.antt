use Rattle.std.proofs.Common.{◌-◌, sym, ◌∙◌, arith}
use Rattle.manchester_line.proofs.Places.{line_at_preamble, line_at_octet, line_past}
use Rattle.mac_parameters.specs.Parameters.{preamble_length}
use Rattle.manchester_line.proofs.line.line_sym.Goals as goal

pub returns-then-i-lt-PREAMBLE_HALVES : goal.returns-then-i-lt-PREAMBLE_HALVES
returns-then-i-lt-PREAMBLE_HALVES c = c.header_sym.ensures ∙ sym (line_at_preamble c.args.octets.now c.args.i c.if-i-lt-PREAMBLE_HALVES.true)

pub returns-then-place-octets : goal.returns-then-place-octets
returns-then-place-octets c = c.half_of.ensures ∙ sym (line_at_octet c.args.octets.now c.args.i (c.args.i - preamble_length) (omega arith) (omega arith) (omega arith))

pub returns-else-place-octets : goal.returns-else-place-octets
returns-else-place-octets c = sym (line_past c.args.octets.now c.args.i (omega arith))
