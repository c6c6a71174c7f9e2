-- The items of two lists in a row, and of a list with one more.
use Rattle.std.proofs.Common.{◌≡◌, ◌⊎◌, refl, inl, inr, ℕ, zero, suc, ◌<◌, List, [], ◌∷◌, ◌++◌, length, get_or, arith}
use Rattle.layout.specs.Among.{IsAmong}

pub among_left : {X : Type 0} (x : X) (xs ys : List X) → IsAmong x xs → IsAmong x (xs ++ ys)
among_left x [] ys h = absurd h
among_left x (z ∷ zs) ys h = elim h [ inl e ↦ inl e | inr k ↦ inr (among_left x zs ys k) ]

pub among_right : {X : Type 0} (x : X) (xs ys : List X) → IsAmong x ys → IsAmong x (xs ++ ys)
among_right x [] ys h = h
among_right x (z ∷ zs) ys h = inr (among_right x zs ys h)

pub among_cases : {X : Type 0} (x : X) (xs ys : List X) → IsAmong x (xs ++ ys) → IsAmong x xs ⊎ IsAmong x ys
among_cases x [] ys h = inr h
among_cases x (z ∷ zs) ys h =
    elim h [ inl e ↦ inl (inl e) | inr k ↦ elim (among_cases x zs ys k) [ inl j ↦ inl (inr j) | inr j ↦ inr j ] ]

pub among_more : {X : Type 0} (x y : X) (xs : List X) → IsAmong x xs → IsAmong x (xs ++ y ∷ [])
among_more x y xs h = among_left x xs (y ∷ []) h

pub among_end : {X : Type 0} (y : X) (xs : List X) → IsAmong y (xs ++ y ∷ [])
among_end y xs = among_right y xs (y ∷ []) (inl refl)

pub among_last : {X : Type 0} (x y : X) (xs : List X) → IsAmong x (xs ++ y ∷ []) → IsAmong x xs ⊎ (y ≡ x)
among_last x y xs h =
    elim (among_cases x xs (y ∷ []) h) [ inl k ↦ inl k | inr k ↦ elim k [ inl e ↦ inr e | inr none ↦ absurd none ] ]

pub among_at : {X : Type 0} (xs : List X) (k : ℕ) (d : X) → k < length xs → IsAmong (get_or xs k d) xs
among_at [] k d low = absurd (omega arith)
among_at (x ∷ xs) zero d low = inl refl
among_at (x ∷ xs) (suc k) d low = inr (among_at xs k d (omega arith))
