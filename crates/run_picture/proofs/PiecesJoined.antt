-- Texts that are made of pieces.
use Rattle.std.proofs.Common.{◌≡◌, refl, ℕ, List, [], ◌∷◌, ◌++◌, ◌∙◌, ap, sym, Result, append_assoc, append-nil}
use Rattle.std.specs.Prelude.{OnOk}
use Rattle.std.proofs.lemmas.Result.{on_ok_weaker}
use Rattle.run_picture.specs.Pieces.{text_of_piece, text_of_pieces}
use Rattle.run_picture.specs.declared.pieces.Piece.{Piece}

-- a text with pieces at its end, put there one by one
abbrev pub piece_by_piece : List ℕ → List Piece → List ℕ
piece_by_piece text [] = text
piece_by_piece text (piece ∷ pieces) = piece_by_piece (text ++ text_of_piece piece) pieces

-- which are the texts of the pieces at its end
pub at_end : (t : List ℕ) (pieces : List Piece) → piece_by_piece t pieces ≡ t ++ text_of_pieces pieces
unfolding text_of_pieces
at_end t [] = sym (append-nil t)
at_end t (piece ∷ pieces) = at_end (t ++ text_of_piece piece) pieces ∙ append_assoc t (text_of_piece piece) (text_of_pieces pieces)

-- what puts the texts of pieces at the end of a text puts them there one by one
pub one_by_one : (old new : List ℕ) (pieces : List Piece) → new ≡ old ++ text_of_pieces pieces → new ≡ old ++ piece_by_piece [] pieces
one_by_one old new pieces e = e ∙ ap (λ (xs : List ℕ). old ++ xs) (sym (at_end [] pieces))

-- and so what they come to
pub puts_text : {A E : Type 0} (r : Result A E) (old new text : List ℕ) (pieces : List Piece) → piece_by_piece [] pieces ≡ text
    → OnOk r (new ≡ old ++ text_of_pieces pieces) → OnOk r (new ≡ old ++ text)
puts_text r old new text pieces same = on_ok_weaker r (λ e. one_by_one old new pieces e ∙ ap (λ (xs : List ℕ). old ++ xs) same)

-- the pieces of the style, in one row and in its three parts
pub style_joined : (a b c d e f g h i j k l m n o : List ℕ)
    → a ++ b ++ c ++ d ++ e ++ f ++ g ++ h ++ i ++ j ++ k ++ l ++ m ++ n ++ o ≡ (a ++ b ++ c ++ d) ++ (e ++ f ++ g ++ h ++ i ++ j) ++ (k ++ l ++ m ++ n ++ o)
style_joined a b c d e f g h i j k l m n o = simp append_assoc

-- the pieces of a head of a picture, of which three have its height h
pub head_joined : (t a1 h a3 style defs patterns c1 c3 d g1 g3 t1 t2 t3 t4 t5 : List ℕ)
    → t1 ≡ t ++ (a1 ++ h ++ a3) → t2 ≡ t1 ++ style → t3 ≡ t2 ++ defs → t4 ≡ t3 ++ patterns
    → t5 ≡ t4 ++ (c1 ++ h ++ c3 ++ d ++ g1 ++ h ++ g3)
    → t5 ≡ t ++ ((a1 ++ h ++ a3) ++ style ++ defs ++ patterns ++ (c1 ++ h ++ c3) ++ d ++ (g1 ++ h ++ g3))
head_joined t a1 h a3 style defs patterns c1 c3 d g1 g3 t1 t2 t3 t4 t5 e1 e2 e3 e4 e5 =
    rw (e5, e4, e3, e2, e1) (simp append_assoc)

-- the pieces of a tick, of which three have its place x, which is y
pub tick_joined : (t x y p1 p2 h p3 p4 m q1 q2 d q3 t1 t2 t3 : List ℕ) → x ≡ y
    → t1 ≡ t ++ (p1 ++ x ++ p2 ++ h ++ p3 ++ x ++ p4) → t2 ≡ t1 ++ m → t3 ≡ t2 ++ (q1 ++ x ++ q2 ++ d ++ q3)
    → t3 ≡ t ++ (p1 ++ y ++ p2 ++ h ++ p3 ++ y ++ p4 ++ m ++ q1 ++ y ++ q2 ++ d ++ q3)
tick_joined t x y p1 p2 h p3 p4 m q1 q2 d q3 t1 t2 t3 ex e1 e2 e3 =
    rw (e3, e2, e1, ex) (simp append_assoc)

-- the pieces of a lane, of which three have its height h
pub lane_joined : (t h a b d f p1 p2 p3 p4 n q1 q2 q3 t1 t2 t3 : List ℕ) → a ≡ b → d ≡ f
    → t1 ≡ t ++ (p1 ++ h ++ p2 ++ a ++ p3 ++ h ++ p4) → t2 ≡ t1 ++ n → t3 ≡ t2 ++ (q1 ++ h ++ q2 ++ d ++ q3)
    → t3 ≡ t ++ (p1 ++ h ++ p2 ++ b ++ p3 ++ h ++ p4 ++ n ++ q1 ++ h ++ q2 ++ f ++ q3)
lane_joined t h a b d f p1 p2 p3 p4 n q1 q2 q3 t1 t2 t3 ea ed e1 e2 e3 =
    rw (e3, e2, e1, ea, ed) (simp append_assoc)

-- the pieces of an entry's name
pub entry_joined : (t a b d f g h p1 p2 p3 p4 t1 : List ℕ) → a ≡ b → d ≡ f → g ≡ h
    → t1 ≡ t ++ (p1 ++ a ++ p2 ++ d ++ p3 ++ g ++ p4) → t1 ≡ t ++ (p1 ++ b ++ p2 ++ f ++ p3 ++ h ++ p4)
entry_joined t a b d f g h p1 p2 p3 p4 t1 ea ed eg e =
    rw (e, ea, ed, eg) refl

-- the pieces of a point behind its place
pub point_joined : (t x p d q t1 t2 : List ℕ) → t1 ≡ t ++ x → t2 ≡ t1 ++ (p ++ d ++ q) → t2 ≡ t ++ (x ++ p ++ d ++ q)
point_joined t x p d q t1 t2 e1 e2 = rw (e2, e1) (simp append_assoc)
