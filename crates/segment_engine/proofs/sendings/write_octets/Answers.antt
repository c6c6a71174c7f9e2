use Rattle.std.proofs.Common.{◌≡◌, ◌≤◌, ◌+◌, ◌-◌, ◌/◌, ◌%◌, length, sym, ap, ◌∙◌, arith}
use Rattle.std.proofs.lemmas.List.{take_all}
use Rattle.mac_parameters.specs.Parameters.{half_bits_an_octet, preamble_length}
use Rattle.manchester_line.proofs.Places.{length_octet_halves}
use Rattle.mac_transmit.specs.Sender.{line_at}
use Rattle.net_parts.specs.Machines.{span}
use Rattle.segment_engine.proofs.SendingTexts.{length_put, octet_more}
use Rattle.segment_engine.proofs.sendings.write_octets.Goals as goal

pub loop-at-preserved : goal.loop-at-preserved
loop-at-preserved c =
    let at = c.loop-at.at in
    let p = c.args.p in
    let xs = c.loop-at.piece in
    let new = c.write_octet.new.piece in
    let inv = c.loop-at.invariant in
    let len = inv.len in
    let whole = inv.whole in
    let test = c.loop-at-test.true in
    let octets = c.requires.octets in
    let begins = c.requires.begins in
    let within = c.requires.within in
    let first : p % half_bits_an_octet ≡ 0 = c.requires.whole (omega (arith, test, len)) in
    let fits : at + half_bits_an_octet ≤ length c.args.piece.now = omega (arith, whole, octets, test, len) in
    let size : length new ≡ half_bits_an_octet = ap length c.write_octet.ensures ∙ length_octet_halves _ in
    record {
      len = length_put at (at + 16 - at) xs new (omega (arith, fits, len)) (omega (arith, size)) ∙ len;
      whole = omega (arith, whole);
      within = fits;
      text = octet_more c.args.octets.now xs new p at ((p + at - preamble_length) / half_bits_an_octet) (at + half_bits_an_octet)
          (omega (arith, first, whole, begins)) (omega (arith, first, whole, begins, within, fits)) (omega (arith, fits, len)) (omega arith) c.write_octet.ensures inv.text;
    }

pub returns : goal.returns
returns c =
    let inv = c.loop-at.invariant in
    let len = inv.len in
    let within = inv.within in
    let test = c.loop-at-test.false in
    let all : c.loop-at.at ≡ length c.args.piece.now = omega (arith, len, within, test) in
    sym (take_all c.loop-at.at c.loop-at.piece test) ∙ inv.text ∙ ap (span (line_at c.args.octets.now) c.args.p) all
