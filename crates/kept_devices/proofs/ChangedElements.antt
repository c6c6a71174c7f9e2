-- What holds for the elements of a list that is changed from its front on.
use Rattle.std.proofs.Common.{◌≡◌, ℕ, ◌+◌, ◌<◌, List, All, length, take, drop, set, get_or, sym, subst, ap, ◌∙◌, arith, length-set, length-drop, get_or-set_same, get_or-drop}
use Rattle.std.proofs.lemmas.List.{take-set, drop-set-lt, drop-drop}
use Rattle.std.proofs.lemmas.List.Elements.{All-more, All-drop}

-- one element more that was changed
pub All-take-set : {X : Type 0} (P : X → Type 0) (xs : List X) (k : ℕ) (y : X) → k < length xs → All P (take k xs) → P y → All P (take (k + 1) (set xs k y))
All-take-set P xs k y h before now =
    All-more P (set xs k y) k y (omega (arith, length-set xs k y)) (rw (take-set xs k y) before) (subst P (sym (get_or-set_same xs k y y h)) now)

-- the elements behind it stay
pub All-drop-set : {X : Type 0} (P : X → Type 0) (xs : List X) (k : ℕ) (y : X) → All P (drop k xs) → All P (drop (k + 1) (set xs k y))
All-drop-set P xs k y later =
    rw (drop-set-lt (k + 1) xs k y (omega arith)) (let more : All P (drop 1 (drop k xs)) = All-drop P 1 (drop k xs) later in rw drop-drop at more)

-- the first of the rest
pub All-drop-first : {X : Type 0} (P : X → Type 0) (xs : List X) (k : ℕ) (d : X) → k < length xs → All P (drop k xs) → P (get_or xs k d)
All-drop-first P xs k d h later =
    let first = later 0 d (omega (arith, length-drop k xs)) in
    subst P (get_or-drop k xs 0 d ∙ (let e : k + 0 ≡ k = omega arith in ap (λ i. get_or xs i d) e)) first

-- one element more that is at the next time, where the rest are still at this one
pub one_later : {X : Type 0} (time : X → ℕ) (t : ℕ) (xs : List X) (k : ℕ) (y d : X) → k < length xs → All (λ x. time x ≡ t + 1) (take k xs) → All (λ x. time x ≡ t) (drop k xs) →
    time y ≡ time (get_or xs k d) + 1 → All (λ x. time x ≡ t + 1) (take (k + 1) (set xs k y)) × All (λ x. time x ≡ t) (drop (k + 1) (set xs k y))
one_later {X = X} time t xs k y d h done later step =
    let Now : X → Type 0 = λ x. time x ≡ t in
    let Later : X → Type 0 = λ x. time x ≡ t + 1 in
    (All-take-set Later xs k y h done (step ∙ ap (λ n. n + 1) (All-drop-first Now xs k d h later)), All-drop-set Now xs k y later)

-- what stands at the front of two rests that are the same
pub get_or-rest : {X : Type 0} (xs ys : List X) (k : ℕ) (d : X) → drop k xs ≡ drop k ys → get_or xs k d ≡ get_or ys k d
get_or-rest xs ys k d same =
    let e : k ≡ k + 0 = omega arith in
    ap (λ i. get_or xs i d) e ∙ sym (get_or-drop k xs 0 d) ∙ ap (λ zs. get_or zs 0 d) same ∙ get_or-drop k ys 0 d ∙ ap (λ i. get_or ys i d) (sym e)

pub rest-set : {X : Type 0} (xs ys : List X) (k : ℕ) (y : X) → drop k xs ≡ drop k ys → drop (k + 1) (set xs k y) ≡ drop (k + 1) ys
rest-set xs ys k y same =
    drop-set-lt (k + 1) xs k y (omega arith) ∙ sym (drop-drop 1 k xs) ∙ ap (drop 1) same ∙ drop-drop 1 k ys
