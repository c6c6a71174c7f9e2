use Rattle.std.proofs.Common.{◌≡◌, ℕ, List, ◌++◌, ◌∙◌, refl, ap, codes}
use Rattle.std.specs.Prelude.{decimal}
use Rattle.run_picture.specs.Bands.{letters_word, segment_text}
use Rattle.run_picture.proofs.PiecesJoined.{puts_text}
use Rattle.run_picture.proofs.bands.add_segment.Goals as goal

-- what is told of a segment's name: whether it is long, and the name
segment_joined : (a b c d y p1 p2 p3 p4 : List ℕ) → a ≡ b → c ≡ d
    → p1 ++ a ++ p2 ++ y ++ p3 ++ c ++ p4 ≡ p1 ++ b ++ p2 ++ y ++ p3 ++ d ++ p4
segment_joined a b c d y p1 p2 p3 p4 ea ec = rw (ea, ec) refl

pub returns : goal.returns
unfolding segment_text
returns c =
    let name = c.args.segment.now.name in
    puts_text c.add_pieces.result c.args.text.now c.add_pieces.new.text (segment_text c.args.y c.args.segment.now) _
    (segment_joined c.letters_word.result.now (letters_word name) c.as_bytes.result.now name (decimal c.args.y)
    (codes "<text class='segment") (codes "' x='-25500' y='") (codes "' dy='500'>segment ") (codes "</text>\n")
    (c.letters_word.ensures ∙ ap letters_word c.as_str-name.ensures) (c.as_bytes.ensures.value ∙ c.as_str-name.ensures))
    c.add_pieces.ensures
