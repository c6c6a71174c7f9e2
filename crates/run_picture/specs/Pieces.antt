-- Texts that are made of pieces, one after the other (profile).
use Rattle.std.specs.Prelude.{ℕ, List, flat_map, decimal}
use Rattle.run_picture.specs.declared.pieces.Piece.{Piece}
use Rattle.run_picture.specs.declared.pieces.Piece.TheVariants.{Word, Number}

-- what a piece puts at the end of a text (profile)
abbrev pub text_of_piece : Piece → List ℕ
text_of_piece (Word octets) = octets.now
text_of_piece (Number n) = decimal n

-- the texts of pieces, one after the other (profile)
unfoldable pub text_of_pieces : List Piece → List ℕ
text_of_pieces pieces = flat_map text_of_piece pieces
