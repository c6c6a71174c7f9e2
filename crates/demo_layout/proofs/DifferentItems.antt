-- When all items of a list differ.
use Rattle.std.proofs.Common.{◌≢◌, ℕ, suc, ◌+◌, ◌<◌, ◌≤◌, All, List, [], ◌∷◌, ◌++◌, map, flat_map, refl, sym, subst, ◌∙◌, arith}
use mathlib.Core.List.{map-map}
use Rattle.std.specs.List.{range_with_len}
use Rattle.std.proofs.lemmas.List.Concat.{flat_map-cons}
use Rattle.std.proofs.lemmas.List.Elements.{All-nil, All-append, All-map, All-head, All-tail}
use Rattle.std.proofs.lemmas.List.FromFn.{length-range_with_len, get_or-range_with_len, length-map-range_with_len, get_or-map-range_with_len}
use Rattle.std.proofs.lemmas.List.Kept.{AllPairs-cons}
use Rattle.layout.specs.Sound.{AreDifferent}

-- what holds of each of these numbers
pub all_in_range : (P : ℕ → Type 0) (a n : ℕ) → ((k : ℕ) → a ≤ k → k < a + n → P k) → All P (range_with_len a n)
all_in_range P a n h = λ i d l.
    let within : i < n = omega (arith, l, length-range_with_len a n) in
    subst P (sym (get_or-range_with_len a n i d within)) (h (a + i) (omega arith) (omega arith))

-- what holds of each element of each piece
pub all_of_pieces : {A X : Type 0} (P : X → Type 0) (f : A → List X) (ns : List A) → All (λ n. All P (f n)) ns → All P (flat_map f ns)
all_of_pieces P f [] h = All-nil P
all_of_pieces P f (n ∷ ns) h =
    subst (All P) (sym (flat_map-cons f n ns))
    (All-append P (f n) (flat_map f ns) (All-head (λ k. All P (f k)) n ns h) (all_of_pieces P f ns (All-tail (λ k. All P (f k)) n ns h)))

-- what holds of each item that these numbers give
pub all_mapped : {A X : Type 0} (P : X → Type 0) (g : A → X) (f : ℕ → A) (a n : ℕ) → ((k : ℕ) → a ≤ k → k < a + n → P (g (f k))) → All P (map g (map f (range_with_len a n)))
all_mapped P g f a n h =
    All-map P g (map f (range_with_len a n)) (All-map (λ x. P (g x)) f (range_with_len a n) (all_in_range (λ k. P (g (f k))) a n h))

-- two numbers that give two items
pub different_by : {A X : Type 0} (g : A → X) (f : ℕ → A) (a n : ℕ) → ((j k : ℕ) → j < k → k < a + n → g (f j) ≢ g (f k)) → AreDifferent (map g (map f (range_with_len a n)))
different_by g f a n apart =
    subst AreDifferent (sym (map-map g f (range_with_len a n))) (λ i j d less within e.
    let inside : j < n = omega (arith, within, length-map-range_with_len (λ k. g (f k)) a n) in
    apart (a + i) (a + j) (omega arith) (omega arith)
    (sym (get_or-map-range_with_len (λ k. g (f k)) a n i (a + i) d (omega arith) refl) ∙ e ∙ get_or-map-range_with_len (λ k. g (f k)) a n j (a + j) d inside refl))

-- two lists of different items that have none in common
pub different_both : {X : Type 0} (xs ys : List X) → AreDifferent xs → AreDifferent ys → All (λ x. All (λ y. x ≢ y) ys) xs → AreDifferent (xs ++ ys)
different_both [] ys one two apart = two
different_both (x ∷ xs) ys one two apart =
    AllPairs-cons (λ a b. a ≢ b) x (xs ++ ys)
    (All-append (λ y. x ≢ y) xs ys (λ k d l. one 0 (suc k) d (omega arith) (omega arith)) (All-head (λ z. All (λ y. z ≢ y) ys) x xs apart))
    (different_both xs ys (λ i j d less within. one (suc i) (suc j) d (omega arith) (omega arith)) two (All-tail (λ z. All (λ y. z ≢ y) ys) x xs apart))
