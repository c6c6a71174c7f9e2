-- An octet more in a buffer that keeps the first so many.
use Rattle.std.proofs.Common.{◌≡◌, ℕ, ◌+◌, ◌<◌, ◌≤◌, List, [], ◌∷◌, ◌++◌, length, take, set, sym, ap, ◌∙◌, arith, length-append, length-take-le}
use Rattle.std.proofs.lemmas.List.{take_more_set, take_all, take_at}

-- one more octet where there is room for n
pub keep_room : (xs : List ℕ) (i n x : ℕ) → length xs ≡ n → i < n → take (i + 1) (set xs i x) ≡ take n (take i xs ++ x ∷ [])
keep_room xs i n x e h =
    let len : length (take i xs) ≡ i = length-take-le i xs (omega arith) in
    take_more_set xs i x (omega arith)
    ∙ sym (take_all n (take i xs ++ x ∷ []) (omega (arith, length-append (take i xs) (x ∷ []), len)))

-- and where there is none left
pub keep_full : (xs : List ℕ) (i n x : ℕ) → length xs ≡ n → n ≤ i → take (i + 1) xs ≡ take n (take i xs ++ x ∷ [])
keep_full xs i n x e h =
    take_all (i + 1) xs (omega arith)
    ∙ sym (take_at xs (x ∷ []) n e)
    ∙ ap (λ ys. take n (ys ++ x ∷ [])) (sym (take_all i xs (omega arith)))
