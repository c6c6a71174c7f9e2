use Rattle.std.proofs.Common.{◌+◌, ◌∙◌, take, ap, arith}
use Rattle.manchester_line.specs.Decoding.{Decoding, all_put}
use Rattle.manchester_line.proofs.PutBits.{put_at_once}
use Rattle.manchester_line.proofs.decoder.Decoder.put_octet.Goals as goal

pub returns : goal.returns
returns c = λ bits l is.
    let i = c.self.inside in
    let d : Decoding = record { halves = i.halves; half = i.half; spoiled = i.spoiled; found = i.found; last = i.last; count = i.count; octets = take i.count i.buffer; spare = i.spare; rest = i.rest } in
    put_at_once bits d c.filled-whole.result c.left_over-self-inside.result (take (i.count + 1) c.keep.new.buffer) (omega arith) l
    (c.filled-whole.ensures bits l is) (c.left_over-self-inside.ensures bits l is) c.keep.ensures
    ∙ ap (λ x. all_put x bits) c.self.view_is
