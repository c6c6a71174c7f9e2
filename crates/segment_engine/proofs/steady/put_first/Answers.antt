use Rattle.std.proofs.Common.{◌+◌, length-take-le, get_or, ap, ◌∙◌, arith}
use Rattle.tap_lines.specs.TapLines.{heard_for}
use Rattle.segment_engine.specs.SteadyPieces.{with_piece_at}
use Rattle.segment_engine.proofs.steady.put_first.Goals as goal

pub put_all-requires-clause-in_time : goal.put_all-requires-clause-in_time
put_all-requires-clause-in_time c =
    let n = c.args.count in
    let size = length-take-le n c.args.piece.now c.requires.piece in
    let small = c.requires.in_time in
    omega (arith, size, small)

pub put_all-requires-clause-long : goal.put_all-requires-clause-long
put_all-requires-clause-long c = λ i d l.
    let n = c.args.count in
    let size = length-take-le n c.args.piece.now c.requires.piece in
    let long = c.requires.long i d l in
    omega (arith, size, long)

pub returns : goal.returns
returns c = λ p d l.
    let n = c.args.count in
    let size = length-take-le n c.args.piece.now c.requires.piece in
    c.put_all.ensures p d l
    ∙ ap (λ m. with_piece_at 0 (heard_for c.args.lookahead c.args.t m c.args.lines.now (c.args.from + p)) (get_or c.args.parcels.now p d)) size
