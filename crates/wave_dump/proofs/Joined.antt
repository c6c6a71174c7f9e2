-- Texts that are made piece by piece.
use Rattle.std.proofs.Common.{◌≡◌, ℕ, List, [], ◌++◌, append_assoc}

-- five pieces that were put at the end of a text, one after the other
pub five_pieces : (t a b c d e t1 t2 t3 t4 t5 : List ℕ) → t1 ≡ t ++ a → t2 ≡ t1 ++ b → t3 ≡ t2 ++ c → t4 ≡ t3 ++ d → t5 ≡ t4 ++ e
    → t5 ≡ t ++ (a ++ b ++ c ++ d ++ e)
five_pieces t a b c d e t1 t2 t3 t4 t5 one two three four five =
    rw (five, four, three, two, one) (simp append_assoc)

-- the first five pieces of a text, the last four of them as one
pub one_and_four : (a b c d e t0 t1 t2 t3 t4 t5 : List ℕ) → t0 ≡ [] → t1 ≡ t0 ++ a → t2 ≡ t1 ++ b → t3 ≡ t2 ++ c → t4 ≡ t3 ++ d → t5 ≡ t4 ++ e
    → t5 ≡ a ++ (b ++ c ++ d ++ e)
one_and_four a b c d e t0 t1 t2 t3 t4 t5 none one two three four five =
    rw (five, four, three, two, one, none) (simp append_assoc)
