-- Lists whose items are those of a function of their numbers grow by one item after the other.
use Rattle.std.proofs.Common.{◌≡◌, ℕ, zero, suc, ◌+◌, List, [], ◌∷◌, ◌++◌, map, append_assoc, sym, ap, ap₂, ◌∙◌, arith}
use Rattle.std.specs.List.{range_with_len, flat_map}
use Rattle.std.proofs.lemmas.List.{flat_map_more}
use Rattle.std.proofs.lemmas.List.FromFn.{map-range_with_len_more}

range_more : (a n j : ℕ) → a + n ≡ j → range_with_len a (suc n) ≡ range_with_len a n ++ j ∷ []
range_more a zero j e = let same : a ≡ j = omega arith in ap (λ k. k ∷ []) same
range_more a (suc n) j e = ap (λ l. a ∷ l) (range_more (a + 1) n j (omega arith))

-- with the next number, from 0 or from 1, there is one more
pub one_more : {X : Type 0} (f : ℕ → X) (k : ℕ) → map f (range_with_len 0 (k + 1)) ≡ map f (range_with_len 0 k) ++ f k ∷ []
one_more f k = map-range_with_len_more f 0 k k (omega arith)

pub one_more_from_1 : {X : Type 0} (f : ℕ → X) (k : ℕ) → map f (range_with_len 1 (k + 1)) ≡ map f (range_with_len 1 k) ++ f (k + 1) ∷ []
one_more_from_1 f k = map-range_with_len_more f 1 k (k + 1) (omega arith)

-- with the next item after the head there is one more
pub one_item_more : {X : Type 0} (head : List X) (f : ℕ → X) (a k j : ℕ) (old new : List X) (x : X)
    → a + k ≡ j → new ≡ old ++ x ∷ [] → x ≡ f j → old ≡ head ++ map f (range_with_len a k) → new ≡ head ++ map f (range_with_len a (k + 1))
one_item_more head f a k j old new x place pushed is before =
    pushed
    ∙ ap₂ (λ ys y. ys ++ y ∷ []) before is
    ∙ append_assoc head (map f (range_with_len a k)) (f j ∷ [])
    ∙ ap (λ ys. head ++ ys) (sym (map-range_with_len_more f a k j place))

-- with the next number, from 0, there is one piece more
pub one_piece_more : {X : Type 0} (f : ℕ → List X) (k : ℕ) → flat_map f (range_with_len 0 (k + 1)) ≡ flat_map f (range_with_len 0 k) ++ f k
one_piece_more f k =
    let next : k + 1 ≡ suc k = omega arith in
    ap (λ n. flat_map f (range_with_len 0 n)) next ∙ ap (flat_map f) (range_more 0 k k (omega arith)) ∙ sym (flat_map_more f [] (range_with_len 0 k) k)
