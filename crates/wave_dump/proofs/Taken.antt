-- The runs of taps, tap after tap.
use Rattle.std.proofs.Common.{◌≡◌, ℕ, zero, suc, ◌+◌, ◌<◌, Bool, true, false, cond, ◌||◌, List, [], ◌∷◌, ◌++◌, length, get_or, set, map, take, drop, refl, ap, ◌∙◌, arith, add-one, append-nil}
use Rattle.std.proofs.lemmas.List.{drop_all, take_all}
use Rattle.std.specs.List.{list_any}
use Rattle.line_probe.specs.declared.run.Run.{Run}
use Rattle.wave_dump.specs.Waiting.{does_begin, runs_after}

-- one more tap is changed
one_changed : {A X : Type 0} (now : A → X) (f : X → X) (ws os : List A) (k : ℕ) (v d : A) → k < length ws → k < length os
    → map now ws ≡ map f (map now (take k os)) ++ map now (drop k os) → now v ≡ f (now (get_or ws k d))
    → map now (set ws k v) ≡ map f (map now (take (suc k) os)) ++ map now (drop (suc k) os)
one_changed now f [] os k v d inw ino h new = absurd (omega arith)
one_changed now f (w ∷ ws) [] k v d inw ino h new = absurd (omega arith)
one_changed now f (w ∷ ws) (o ∷ os) zero v d inw ino h new = cc
one_changed now f (w ∷ ws) (o ∷ os) (suc k) v d inw ino h new =
    let more : map now (set ws k v) ≡ map f (map now (take (suc k) os)) ++ map now (drop (suc k) os) =
    one_changed now f ws os k v d (omega arith) (omega arith) (cc h) new in
    cc

-- the same, where the next one is counted by adding 1
pub one_changed_at : {A X : Type 0} (now : A → X) (f : X → X) (ws os : List A) (k : ℕ) (v d : A) → k < length ws → k < length os
    → map now ws ≡ map f (map now (take k os)) ++ map now (drop k os) → now v ≡ f (now (get_or ws k d))
    → map now (set ws k v) ≡ map f (map now (take (k + 1) os)) ++ map now (drop (k + 1) os)
one_changed_at now f ws os k v d inw ino h new = rw add-one (one_changed now f ws os k v d inw ino h new)

none_left : (t : ℕ) (runs : List Run) → does_begin t runs ≡ false → runs_after t runs ≡ runs
none_left t [] h = refl
none_left t (r ∷ rs) h = ap (λ b. cond b rs (r ∷ rs)) h

pub or_first : (a b : Bool) → (a || b) ≡ false → a ≡ false
or_first true b h = h
or_first false b h = refl

pub or_second : (a b : Bool) → (a || b) ≡ false → b ≡ false
or_second true b h = cc h
or_second false b h = h

-- where no run begins, none is taken away
pub none_begin : (t : ℕ) (waiting : List (List Run)) → list_any (does_begin t) waiting ≡ false → map (runs_after t) waiting ≡ waiting
none_begin t [] h = refl
none_begin t (runs ∷ waiting) h =
    let one : runs_after t runs ≡ runs = none_left t runs (or_first (does_begin t runs) (list_any (does_begin t) waiting) h) in
    let more : map (runs_after t) waiting ≡ waiting = none_begin t waiting (or_second (does_begin t runs) (list_any (does_begin t) waiting) h) in
    cc

-- what a vector has after all its items were written
pub written_back : {A : Type 0} (new items : List A) (n : ℕ) → length new ≡ n → length items ≡ n → take n (new ++ drop (length new) items) ≡ new
written_back new items n one two =
    let none : drop (length new) items ≡ [] = drop_all (length new) items (omega arith) in
    ap (λ xs. take n (new ++ xs)) none ∙ ap (take n) (append-nil new) ∙ take_all n new (omega arith)
