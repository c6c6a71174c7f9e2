-- Texts that are made piece by piece.
use Rattle.std.proofs.Common.{◌≡◌, ℕ, List, ◌++◌, append_assoc}

-- 3 pieces that were put at the end of a text, one after the other
pub joined_3 : (t p1 p2 p3 t1 t2 t3 : List ℕ) → t1 ≡ t ++ p1 → t2 ≡ t1 ++ p2 → t3 ≡ t2 ++ p3
    → t3 ≡ t ++ (p1 ++ p2 ++ p3)
joined_3 t p1 p2 p3 t1 t2 t3 e1 e2 e3 =
    rw (e3, e2, e1) (simp append_assoc)

-- 4 pieces that were put at the end of a text, one after the other
pub joined_4 : (t p1 p2 p3 p4 t1 t2 t3 t4 : List ℕ) → t1 ≡ t ++ p1 → t2 ≡ t1 ++ p2 → t3 ≡ t2 ++ p3 → t4 ≡ t3 ++ p4
    → t4 ≡ t ++ (p1 ++ p2 ++ p3 ++ p4)
joined_4 t p1 p2 p3 p4 t1 t2 t3 t4 e1 e2 e3 e4 =
    rw (e4, e3, e2, e1) (simp append_assoc)
