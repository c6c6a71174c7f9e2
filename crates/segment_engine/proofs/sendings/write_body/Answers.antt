use Rattle.std.proofs.Common.{◌-◌, ◌%◌, length, arith}
use Rattle.mac_parameters.specs.Parameters.{half_bits_an_octet}
use Rattle.mac_transmit.specs.Sender.{line_at}
use Rattle.segment_engine.proofs.SendingTexts.{three_parts}
use Rattle.segment_engine.proofs.sendings.write_body.Goals as goal

pub returns : goal.returns
returns c =
    let xs = c.args.piece.now in
    let first = c.min-first.result in
    let least = c.min-first.ensures in
    let last = length xs - (length xs - first) % half_bits_an_octet in
    three_parts (line_at c.args.octets.now) xs c.write_symbols.new.piece c.write_octets.new.piece c.write_symbols-2.new.piece c.args.p first last
    (omega (arith, least)) (omega arith) c.write_symbols.ensures c.write_octets.ensures c.write_symbols-2.ensures
