use Rattle.std.proofs.Common.{◌≡◌, drop}
use Rattle.run_picture.proofs.PiecesJoined.{piece_by_piece}
use Rattle.run_picture.proofs.pieces.add_pieces.Given as goal

abbrev pub invariant-loop-piece : goal.invariant-loop-piece
invariant-loop-piece l = piece_by_piece l.text (drop l.piece-index l.pieces) ≡ piece_by_piece l.fn.text l.pieces
