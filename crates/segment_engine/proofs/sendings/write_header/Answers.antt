use Rattle.std.proofs.Common.{length, length-set, ◌∙◌, arith}
use Rattle.manchester_line.specs.Line.{preamble_at}
use Rattle.segment_engine.proofs.SendingTexts.{all_written, one_more}
use Rattle.segment_engine.proofs.sendings.write_header.Goals as goal

pub loop-j-preserved : goal.loop-j-preserved
loop-j-preserved c =
    let inv = c.loop-j.invariant in
    let len = inv.len in
    let test = c.loop-j-test.true in
    record {
      len = length-set c.loop-j.piece c.loop-j.j c.header_sym.result ∙ len;
      text = one_more preamble_at c.loop-j.piece c.args.p c.loop-j.j c.header_sym.result (omega (arith, len, test)) c.header_sym.ensures inv.text;
    }

pub returns : goal.returns
returns c =
    let inv = c.loop-j.invariant in
    let test = c.loop-j-test.false in
    all_written preamble_at c.loop-j.piece c.args.p (length c.args.piece.now) inv.len (λ i l. inv.text i (omega (arith, l, test)))
