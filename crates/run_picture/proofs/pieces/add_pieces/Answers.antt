use Rattle.std.proofs.Common.{sym, ◌∙◌}
use Rattle.std.proofs.lemmas.List.{at_drop_all}
use Rattle.run_picture.proofs.PiecesJoined.{at_end, piece_by_piece}
use Rattle.run_picture.proofs.pieces.add_pieces.Goals as goal

pub returns : goal.returns
returns c =
    sym (at_drop_all (λ ps. piece_by_piece c.loop-piece.text ps) c.args.pieces.now c.loop-piece.piece-index c.loop-piece-test.false)
    ∙ c.loop-piece.invariant ∙ at_end c.args.text.now c.args.pieces.now
