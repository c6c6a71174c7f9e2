use Rattle.std.proofs.Common.{◌≡◌, ◌+◌, length, drop, refl, sym, ◌∙◌, arith, length-take-le}
use Rattle.std.proofs.lemmas.List.{take_at, drop_at, append-nil}
use Rattle.manchester_line.specs.Line.{preamble}
use Rattle.manchester_line.proofs.Pieces.{text_step, rest_step}
use Rattle.mac_parameters.specs.Parameters.{preamble_length, half_bits_an_octet}
use Rattle.manchester_line.proofs.line.encode_into.Goals as goal

pub slice_bounds-put_preamble-end-2 : goal.slice_bounds-put_preamble-end-2
slice_bounds-put_preamble-end-2 c = sym (length-take-le preamble_length c.args.out.now (omega arith))

pub put_preamble-requires : goal.put_preamble-requires
put_preamble-requires c = length-take-le preamble_length c.args.out.now (omega arith)

pub loop-octet-init : goal.loop-octet-init
loop-octet-init c =
    let len : length c.put_preamble.new.out ≡ preamble_length = c.put_preamble.auto.out ∙ length-take-le preamble_length c.args.out.now (omega arith) in
    record {
      at = refl;
      text = take_at c.put_preamble.new.out (drop preamble_length c.args.out.now) preamble_length len ∙ c.put_preamble.ensures ∙ sym (append-nil preamble);
      rest = drop_at c.put_preamble.new.out (drop preamble_length c.args.out.now) preamble_length len;
    }

pub loop-octet-preserved : goal.loop-octet-preserved
loop-octet-preserved c = record {
  at = omega arith;
  text = text_step c.args.octets.now c.loop-octet.out c.put_octet.new.out c.loop-octet.at c.loop-octet.octet-index _ (c.loop-octet.at + half_bits_an_octet) refl (omega arith) (omega (arith, c.put_octet.ensures.len)) (omega arith) refl c.put_octet.ensures.halves c.loop-octet.invariant.text;
  rest = rest_step c.loop-octet.out c.put_octet.new.out c.args.out.now c.loop-octet.at (c.loop-octet.at + half_bits_an_octet) refl (omega arith) (omega (arith, c.put_octet.ensures.len)) c.loop-octet.invariant.rest;
}
