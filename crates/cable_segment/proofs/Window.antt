-- A window of rows in a buffer: a write within it, and a row more before it.
use Rattle.std.proofs.Common.{◌≡◌, ℕ, zero, suc, ◌+◌, ◌*◌, ◌<◌, ◌≤◌, List, [], ◌∷◌, ◌++◌, length, take, drop, set, refl, ap, ap₂, ◌∙◌, arith, length-drop, length-take-le}
use Rattle.std.proofs.lemmas.List.{take-take, drop-set-add}
use Rattle.std.proofs.lemmas.Nat.{mul-add-lt}
use Rattle.std.proofs.Math.Seq.{take-set-lt}
use Rattle.manchester_line.specs.declared.Sym.{Sym}
use Rattle.cable_segment.specs.Cable.{CableHistory}

pub take-append-take : {X : Type 0} → (n m : ℕ) (xs ys : List X) → n ≤ m → take n (xs ++ take m ys) ≡ take n (xs ++ ys)
take-append-take n m [] ys h = take-take n m ys h
take-append-take zero m (x ∷ xs) ys h = refl
take-append-take (suc n) m (x ∷ xs) ys h = ap (λ zs. x ∷ zs) (take-append-take n m xs ys (omega arith))

-- a write within a window
pub window_set : {X : Type 0} → (xs : List X) (start span i : ℕ) (y : X) → i < span → take span (drop start (set xs (start + i) y)) ≡ set (take span (drop start xs)) i y
window_set xs start span i y h = ap (take span) (drop-set-add start xs i y) ∙ take-set-lt span (drop start xs) i y h

-- the same, of a row of n elements, of which there are m rows
pub row_set : {X : Type 0} → (xs : List X) (start span m row tap n k : ℕ) (y : X) → k ≡ n → row < m → tap < n → span ≡ m * n
    → take span (drop start (set xs (start + row * k + tap) y)) ≡ set (take span (drop start xs)) (row * n + tap) y
row_set xs start span m row tap n k y same in_row in_tap whole =
    let at : start + row * k + tap ≡ start + (row * n + tap) = rw same (omega arith) in
    ap (λ i. take span (drop start (set xs i y))) at
    ∙ window_set xs start span (row * n + tap) y (omega (arith, mul-add-lt row n tap m in_row in_tap, whole))

pub length-window : {X : Type 0} → (xs : List X) (start span : ℕ) → start + span ≤ length xs → length (take span (drop start xs)) ≡ span
length-window xs start span h = length-take-le span _ (omega (arith, length-drop start xs))

-- two records of what a cable was told
pub same_told : (ps : List ℕ) (a : ℕ) (m n : ℕ) (xs ys : List Sym) → m ≡ n → xs ≡ ys → ◌≡◌ {A = CableHistory} (record { positions = ps; ahead = a; past = m; rows = xs }) (record { positions = ps; ahead = a; past = n; rows = ys })
same_told ps a m n xs ys e f = ap₂ (λ (k : ℕ) (zs : List Sym). let r : CableHistory = record { positions = ps; ahead = a; past = k; rows = zs } in r) e f

pub same_places : {ps qs : List ℕ} {a m : ℕ} {xs ys : List Sym} → ps ≡ qs → xs ≡ ys → ◌≡◌ {A = CableHistory} (record { positions = ps; ahead = a; past = m; rows = xs }) (record { positions = qs; ahead = a; past = m; rows = ys })
same_places {a = a} {m = m} e f = ap₂ (λ (qs : List ℕ) (zs : List Sym). let r : CableHistory = record { positions = qs; ahead = a; past = m; rows = zs } in r) e f
