use Rattle.std.proofs.Common.{◌*◌, ◌+◌, ◌∙◌, Some, drop, sym, ap, arith}
use Rattle.std.specs.Prelude.{◌&&◌}
use Rattle.std.specs.Option.{option_map}
use Rattle.manchester_line.specs.Decoding.{all_shifted, shifted}
use Rattle.manchester_line.specs.Reading.{bits_of}
use Rattle.manchester_line.proofs.WholeOctets.{if_whole, shift_step, shift_end}
use Rattle.manchester_line.proofs.decoder.octet_of.Goals as goal

pub loop-j-preserved : goal.loop-j-preserved
loop-j-preserved c =
    ap (λ w. if_whole (c.loop-j.whole && w) (option_map (all_shifted c.shift-octet.result) (bits_of (drop (2 * (c.loop-j.j + 1)) c.args.halves.now)))) c.is_bit-whole.ensures
    ∙ shift_step c.args.halves.now c.loop-j.j c.shift-octet.result c.loop-j.octet c.loop-j.whole _ (omega arith)
    (λ b is. c.shift-octet.ensures ∙ ap (shifted c.loop-j.octet) (c.bit_by.ensures _ b is)) c.loop-j.invariant

pub returns-then-whole : goal.returns-then-whole
returns-then-whole c =
    ap (λ w. if_whole w (Some c.loop-j.octet)) (sym c.if-whole.true)
    ∙ shift_end c.args.halves.now c.loop-j.j c.loop-j.octet c.loop-j.whole _ (omega arith) c.loop-j.invariant

pub returns-else-whole : goal.returns-else-whole
returns-else-whole c =
    ap (λ w. if_whole w (Some c.loop-j.octet)) (sym c.if-whole.false)
    ∙ shift_end c.args.halves.now c.loop-j.j c.loop-j.octet c.loop-j.whole _ (omega arith) c.loop-j.invariant
