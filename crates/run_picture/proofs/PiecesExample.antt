-- An example of a text of pieces: a word, a number and a word.
use Rattle.std.proofs.Common.{◌≡◌, ℕ, List, [], ◌∷◌, Bor, refl, codes}
use Rattle.std.specs.Fmt.{digits}
use Rattle.run_picture.specs.Pieces.{text_of_pieces}
use Rattle.run_picture.specs.declared.pieces.Piece.TheVariants.{Word, Number}

abbrev word : List ℕ → Bor (List ℕ)
word octets = record { ref_ptr = (0, 0); now = octets }

pub of_three : text_of_pieces (Word (word (codes "x='")) ∷ Number 107 ∷ Word (word (codes "'")) ∷ []) ≡ codes "x='107'"
unfolding digits text_of_pieces
of_three = refl

pub of_none : text_of_pieces [] ≡ []
unfolding text_of_pieces
of_none = refl
