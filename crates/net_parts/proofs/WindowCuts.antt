-- Rows cut into parcels and windows, and put together again.
use Rattle.std.proofs.Common.{◌≡◌, ℕ, zero, suc, ◌+◌, ◌-◌, ◌*◌, ◌/◌, ◌<◌, ◌≤◌, List, [], ◌∷◌, map, length, get_or, refl, ap, ap₂, ◌∙◌, arith, mul-le-mul_right}
use Rattle.std.proofs.lemmas.List.{get_or-map}
use Rattle.std.proofs.lemmas.Nat.{div-add-mod'}
use Rattle.manchester_line.specs.declared.Sym.{Sym}
use Rattle.manchester_line.specs.declared.Sym.TheVariants.{Idle}
use Rattle.net_parts.specs.Machines.{span, Machine, Ran, run_rows, column, columns, parcels_of}
use Rattle.net_parts.proofs.LateRows.{span_of}
use Rattle.net_parts.proofs.RepeaterSteps.{get_or-span}

pub span_alike : {X : Type 0} (f g : ℕ → X) (t u n : ℕ) → ((k : ℕ) → k < n → f (t + k) ≡ g (u + k)) → span f t n ≡ span g u n
span_alike f g t u zero h = refl
span_alike f g t u (suc n) h =
    let e : t ≡ t + 0 = omega arith in
    let d : u + 0 ≡ u = omega arith in
    ap₂ ◌∷◌ (ap f e ∙ h 0 (omega arith) ∙ ap g d)
    (span_alike f g (suc t) (suc u) n (λ k l.
    let a : suc t + k ≡ t + suc k = omega arith in
    let b : u + suc k ≡ suc u + k = omega arith in
    ap f a ∙ h (suc k) (omega arith) ∙ ap g b))

map-span : {X Y : Type 0} (g : X → Y) (f : ℕ → X) (t n : ℕ) → map g (span f t n) ≡ span (λ u. g (f u)) t n
map-span g f t zero = refl
map-span g f t (suc n) = ap (λ ys. g (f t) ∷ ys) (map-span g f (suc t) n)

column_of : (f : ℕ → ℕ → Sym) (t n k : ℕ) (es : List ℕ) → k < n → column (map (λ e. span (f e) t n) es) k ≡ map (λ e. f e (t + k)) es
column_of f t n k [] h = refl
column_of f t n k (e ∷ es) h = ap₂ ◌∷◌ (get_or-span (f e) t n k Idle h) (column_of f t n k es h)

-- the first n columns of parcels of m symbols
pub columns_of : (f : ℕ → ℕ → Sym) (t n m : ℕ) (es : List ℕ) → n ≤ m → columns (map (λ e. span (f e) t m) es) n ≡ span (λ u. map (λ e. f e u) es) t n
columns_of f t n m es l =
    span_alike (column (map (λ e. span (f e) t m) es)) (λ u. map (λ e. f e u) es) 0 t n
    (λ k h. let z : 0 + k ≡ k = omega arith in ap (column (map (λ e. span (f e) t m) es)) z ∙ column_of f t m k es (omega arith))

pub parcels_are : (f : ℕ → ℕ → Sym) (es : List ℕ) (t n : ℕ) → parcels_of (length es) (span (λ u. map (λ e. f e u) es) t n) ≡ map (λ e. span (f e) t n) es
parcels_are f es t n =
    span_of (λ p. map (λ row. get_or row p Idle) (span (λ u. map (λ e. f e u) es) t n)) (λ e. span (f e) t n) 0 es (λ p m h is.
    let same : m ≡ p = omega arith in
    ap (λ i. map (λ row. get_or row i Idle) (span (λ u. map (λ e. f e u) es) t n)) same
    ∙ map-span (λ row. get_or row p Idle) (λ u. map (λ e. f e u) es) t n
    ∙ span_alike (λ u. get_or (map (λ e. f e u) es) p Idle) (f (get_or es p 0)) t t n (λ k l. get_or-map (λ e. f e (t + k)) es p 0 Idle h))

-- a machine that goes from state to state where these rows come in
pub runs : {S : Type 0} (m : Machine S) (at : ℕ → S) (comes goes : ℕ → List Sym) → ((t : ℕ) → m.step (comes t) (at t) ≡ at (suc t)) → ((t : ℕ) → m.gives (comes t) (at t) ≡ goes t) →
    (t n : ℕ) → run_rows m (span comes t n) (at t) ≡ record { state = at (t + n); rows = span goes t n }
runs {S = S} m at comes goes steps gives t zero = let e : t ≡ t + 0 = omega arith in ap (λ u. let x : Ran S = record { state = at u; rows = [] } in x) e
runs {S = S} m at comes goes steps gives t (suc n) =
    let e : suc t + n ≡ t + suc n = omega arith in
    let rest : run_rows m (span comes (suc t) n) (m.step (comes t) (at t)) ≡ record { state = at (suc t + n); rows = span goes (suc t) n } = ap (run_rows m (span comes (suc t) n)) (steps t) ∙ runs m at comes goes steps gives (suc t) n in
    ap (λ (r : Ran S). let x : Ran S = record { state = r.state; rows = m.gives (comes t) (at t) ∷ r.rows } in x) rest
    ∙ ap₂ (λ (u : ℕ) (row : List Sym). let x : Ran S = record { state = at u; rows = row ∷ span goes (suc t) n } in x) e (gives t)

-- a window that there is begins before the end
pub begins_before : (h l w : ℕ) → 0 < l → w < (h + l - 1) / l → w * l < h
begins_before h l w some below =
    let n = h + l - 1 in
    let whole = div-add-mod' n l in
    let more : (w + 1) * l ≤ n / l * l = mul-le-mul_right l (omega arith) in
    omega (arith, whole, more)
