-- What is found along a list with one more item.
use Rattle.std.proofs.Common.{◌≡◌, ℕ, suc, ◌+◌, ◌<◌, ◌==◌, cond, true, false, refl, sym, ap, ◌∙◌, subst, inl, inr, List, [], ◌∷◌, ◌++◌, length, get_or, set, Option, None, Some, count_by, Bool, arith, eqb-true, eq-eqb, get_or-set_same, get_or-set_other}
use Rattle.std.specs.Option.{option_or}
use Rattle.std.proofs.lemmas.Bool.{cases_Bool}
use Rattle.std.proofs.lemmas.List.Sums.{sum_by-append}
use Rattle.frame_table.specs.Found.{first_found, last_found}

or_none : {X : Type 0} (o : Option X) → option_or o None ≡ o
or_none None = refl
or_none (Some x) = refl

or_assoc : {X : Type 0} (o p q : Option X) → option_or (option_or o p) q ≡ option_or o (option_or p q)
or_assoc None p q = refl
or_assoc (Some x) p q = refl

pub first_push : {X Y : Type 0} (f : X → Option Y) (xs : List X) (x : X) → first_found f (xs ++ x ∷ []) ≡ option_or (first_found f xs) (f x)
first_push f [] x = or_none (f x)
first_push f (y ∷ ys) x = ap (option_or (f y)) (first_push f ys x) ∙ sym (or_assoc (f y) (first_found f ys) (f x))

pub last_push : {X Y : Type 0} (f : X → Option Y) (xs : List X) (x : X) → last_found f (xs ++ x ∷ []) ≡ option_or (f x) (last_found f xs)
last_push f [] x = sym (or_none (f x))
last_push f (y ∷ ys) x = ap (λ o. option_or o (f y)) (last_push f ys x) ∙ or_assoc (f x) (last_found f ys) (f y)

pub last_append : {X Y : Type 0} (f : X → Option Y) (xs ys : List X) → last_found f (xs ++ ys) ≡ option_or (last_found f ys) (last_found f xs)
last_append f [] ys = sym (or_none (last_found f ys))
last_append f (x ∷ xs) ys = ap (λ o. option_or o (f x)) (last_append f xs ys) ∙ or_assoc (last_found f ys) (last_found f xs) (f x)

-- where nothing is found at any place, nothing is found
pub last_none : {X Y : Type 0} (f : X → Option Y) (xs : List X) → ((k : ℕ) (d : X) → k < length xs → f (get_or xs k d) ≡ None) → last_found f xs ≡ None
last_none f [] h = refl
last_none f (x ∷ xs) h = ap (λ o. option_or o (f x)) (last_none f xs (λ k d lt. h (suc k) d (omega arith))) ∙ h 0 x (omega arith)

pub count_push_yes : {X : Type 0} (p : X → Bool) (xs : List X) (x : X) → p x ≡ true → count_by p (xs ++ x ∷ []) ≡ count_by p xs + 1
count_push_yes p xs x h =
    let one : count_by p (x ∷ []) ≡ 1 = rw h refl in
    sum_by-append (λ y. cond (p y) 1 0) xs (x ∷ []) ∙ ap (λ n. count_by p xs + n) one

pub count_push_no : {X : Type 0} (p : X → Bool) (xs : List X) (x : X) → p x ≡ false → count_by p (xs ++ x ∷ []) ≡ count_by p xs
count_push_no p xs x h =
    let none : count_by p (x ∷ []) ≡ 0 = rw h refl in
    let same : count_by p xs + 0 ≡ count_by p xs = omega arith in
    sum_by-append (λ y. cond (p y) 1 0) xs (x ∷ []) ∙ ap (λ n. count_by p xs + n) none ∙ same

-- an item that was set, or another
pub set_at_either : {X : Type 0} (xs : List X) (k j : ℕ) (x d : X) → j < length xs → get_or (set xs k x) j d ≡ cond (k == j) x (get_or xs j d)
set_at_either xs k j x d lt =
    elim (cases_Bool (k == j)) [
      | inl same ↦ let e : k ≡ j = eqb-true k j same in rw same (subst (λ (i : ℕ). get_or (set xs i x) j d ≡ x) (sym e) (get_or-set_same xs j x d lt))
      | inr other ↦ rw other (get_or-set_other xs k j x d (λ e. let t : (k == j) ≡ true = eq-eqb k j (sym e) in let not_so : false ≡ true = sym other ∙ t in cc))
    ]
