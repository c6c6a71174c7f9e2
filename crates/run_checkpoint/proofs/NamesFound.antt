-- The first place at which a name stands.
use Rattle.std.proofs.Common.{◌≡◌, ℕ, ◌+◌, ◌<◌, ◌≤◌, true, false, List, length, map, drop, get_or, Some, None, refl}
use Rattle.std.proofs.lemmas.List.{drop_all, drop_more}
use Rattle.std.specs.Str.{bytes_eq}
use Rattle.run_checkpoint.specs.Places.{device_from}

-- the name stands here
pub name_here : {A : Type 0} (name_of : A → List ℕ) (xs : List A) (k j : ℕ) (d : A) (given name : List ℕ) → k < length xs → given ≡ name_of (get_or xs k d) → bytes_eq given name ≡ true
    → device_from j name (map name_of (drop k xs)) ≡ Some j
name_here name_of xs k j d given name lt is same = rw (drop_more xs k d lt, ← is, same) refl

-- another name stands here
pub name_after : {A : Type 0} (name_of : A → List ℕ) (xs : List A) (k j : ℕ) (d : A) (given name : List ℕ) → k < length xs → given ≡ name_of (get_or xs k d) → bytes_eq given name ≡ false
    → device_from j name (map name_of (drop k xs)) ≡ device_from (j + 1) name (map name_of (drop (k + 1) xs))
name_after name_of xs k j d given name lt is other = rw (drop_more xs k d lt, ← is, other) refl

-- no name is left
pub no_name_left : {A : Type 0} (name_of : A → List ℕ) (xs : List A) (k j : ℕ) (name : List ℕ) → length xs ≤ k → device_from j name (map name_of (drop k xs)) ≡ None
no_name_left name_of xs k j name le = rw (drop_all k xs le) refl
