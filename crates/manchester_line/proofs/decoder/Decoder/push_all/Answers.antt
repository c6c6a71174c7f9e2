use Rattle.std.proofs.Common.{◌-◌, ◌∙◌, length, ap, arith}
use Rattle.manchester_line.specs.Decoding.{Decoding}
use Rattle.manchester_line.proofs.FramePairs.{all_counted}
use Rattle.manchester_line.proofs.WholeOctets.{decodes_more, first_half}
use Rattle.manchester_line.proofs.decoder.Decoder.push_all.Goals as goal

pub returns-then-is_none-clause-halves : goal.returns-then-is_none-clause-halves
returns-then-is_none-clause-halves c = ap (λ (d : Decoding). d.halves) c.push_whole.ensures ∙ all_counted c.args.piece.now c.args.self.now

pub returns-then-is_none-clause-decodes : goal.returns-then-is_none-clause-decodes
returns-then-is_none-clause-decodes c = λ halves h. decodes_more halves c.args.piece.now c.args.self.now c.push_whole.new.self h c.push_whole.ensures

pub returns-in-len1-up-clause-halves : goal.returns-in-len1-up-clause-halves
returns-in-len1-up-clause-halves c =
    let piece = c.args.piece.now in
    let moved = first_half piece (length piece - 1) c.args.self.now c.push_half.new.self c.push_whole-in-len1-up.new.self (omega arith) c.push_half.ensures c.push_whole-in-len1-up.ensures in
    ap (λ (d : Decoding). d.halves) moved ∙ all_counted piece c.args.self.now

pub returns-in-len1-up-clause-decodes : goal.returns-in-len1-up-clause-decodes
returns-in-len1-up-clause-decodes c = λ halves h.
    let piece = c.args.piece.now in
    decodes_more halves piece c.args.self.now c.push_whole-in-len1-up.new.self h
    (first_half piece (length piece - 1) c.args.self.now c.push_half.new.self c.push_whole-in-len1-up.new.self (omega arith) c.push_half.ensures c.push_whole-in-len1-up.ensures)
