-- The rows of one device among those of a half bit.
use Rattle.std.proofs.Common.{◌≡◌, ◌≢◌, ℕ, zero, suc, ◌+◌, ◌<◌, cond, eqb, Option, Some, None, List, [], ◌∷◌, ◌++◌, length, get_or, refl, ap, ap₂, ◌∙◌, arith}
use Rattle.std.specs.Prelude.{IfSome}
use Rattle.std.specs.List.{flat_map, AllByRecursion}
use Rattle.std.proofs.lemmas.Bool.{eq-eqb, ne_eqb}
use Rattle.std.proofs.lemmas.List.{append-nil}
use Rattle.std.proofs.lemmas.List.Concat.{flat_map-append}
use Rattle.std.proofs.lemmas.List.Elements.{filter-append}
use Rattle.collision_log.specs.declared.row.Body.{Body}
use Rattle.collision_log.specs.declared.row.Row.{Row}
use Rattle.network.specs.Rows.{row_of, rows_of, rows_of_bodies, repeater_rows}
use Rattle.quiet_state.specs.PlanStates.{own_rows, ended_frames, received_sizes}
use Rattle.quiet_state.proofs.ReceiverRanges.{ended_by, received_by}

own_row : (t k : ℕ) (e : Option Body) → own_rows k (row_of t k e) ≡ row_of t k e
own_row t k None = refl
own_row t k (Some body) = ap (λ b. cond b (row_of t k (Some body)) []) (eq-eqb k k refl)

other_row : (t j k : ℕ) (e : Option Body) → j ≢ k → own_rows k (row_of t j e) ≡ []
other_row t j k None ne = refl
other_row t j k (Some body) ne = ap (λ b. cond b (row_of t j (Some body)) []) (ne_eqb j k ne)

own_append : (k : ℕ) (xs ys : List Row) → own_rows k (xs ++ ys) ≡ own_rows k xs ++ own_rows k ys
own_append k xs ys = filter-append (λ (row : Row). eqb row.device k) xs ys

later_rows : (t j k : ℕ) (es rs : List (Option Body)) → k < j → own_rows k (rows_of t j es rs) ≡ []
later_rows t j k [] rs l = refl
later_rows t j k (e ∷ es) [] l = refl
later_rows t j k (e ∷ es) (r ∷ rs) l =
    own_append k (row_of t j e ++ row_of t j r) (rows_of t (j + 1) es rs)
    ∙ ap₂ (λ (xs ys : List Row). xs ++ ys)
    (own_append k (row_of t j e) (row_of t j r) ∙ ap₂ (λ (xs ys : List Row). xs ++ ys) (other_row t j k e (λ same. omega arith)) (other_row t j k r (λ same. omega arith)))
    (later_rows t (j + 1) k es rs (omega arith))

own_stations : (t j i k : ℕ) (es rs : List (Option Body)) → k ≡ j + i → i < length es → i < length rs → own_rows k (rows_of t j es rs) ≡ row_of t k (get_or es i None) ++ row_of t k (get_or rs i None)
own_stations t j i k [] rs e l m = absurd (omega arith)
own_stations t j i k (x ∷ es) [] e l m = absurd (omega arith)
own_stations t j zero k (x ∷ es) (r ∷ rs) e l m =
    let same : j ≡ k = omega arith in
    let now : List Row = row_of t k x ++ row_of t k r in
    own_append k (row_of t j x ++ row_of t j r) (rows_of t (j + 1) es rs)
    ∙ ap₂ (λ (xs ys : List Row). xs ++ ys)
    (ap (λ d. own_rows k (row_of t d x ++ row_of t d r)) same ∙ own_append k (row_of t k x) (row_of t k r) ∙ ap₂ (λ (xs ys : List Row). xs ++ ys) (own_row t k x) (own_row t k r))
    (later_rows t (j + 1) k es rs (omega arith))
    ∙ append-nil now
own_stations t j (suc i) k (x ∷ es) (r ∷ rs) e l m =
    own_append k (row_of t j x ++ row_of t j r) (rows_of t (j + 1) es rs)
    ∙ ap₂ (λ (xs ys : List Row). xs ++ ys)
    (own_append k (row_of t j x) (row_of t j r) ∙ ap₂ (λ (xs ys : List Row). xs ++ ys) (other_row t j k x (λ same. omega arith)) (other_row t j k r (λ same. omega arith)))
    (own_stations t (j + 1) i k es rs (omega arith) (omega arith) (omega arith))

other_bodies : (t j k : ℕ) (bodies : List Body) → j ≢ k → own_rows k (rows_of_bodies t j bodies) ≡ []
other_bodies t j k [] ne = refl
other_bodies t j k (body ∷ bodies) ne =
    ap (λ b. cond b (record { t = t; device = j; body = body } ∷ own_rows k (rows_of_bodies t j bodies)) (own_rows k (rows_of_bodies t j bodies))) (ne_eqb j k ne) ∙ other_bodies t j k bodies ne

other_devices : (t j k : ℕ) (all : List (List Body)) → k < j → own_rows k (repeater_rows t j all) ≡ []
other_devices t j k [] l = refl
other_devices t j k (bodies ∷ all) l =
    own_append k (rows_of_bodies t j bodies) (repeater_rows t (j + 1) all)
    ∙ ap₂ (λ (xs ys : List Row). xs ++ ys) (other_bodies t j k bodies (λ same. omega arith)) (other_devices t (j + 1) k all (omega arith))

-- the rows of a station, the first of all devices being stations
own_now : (t k s : ℕ) (es rs : List (Option Body)) (all : List (List Body)) → k < s → k < length es → k < length rs → own_rows k (rows_of t 0 es rs ++ repeater_rows t s all) ≡ row_of t k (get_or es k None) ++ row_of t k (get_or rs k None)
own_now t k s es rs all l m n =
    let both : List Row = row_of t k (get_or es k None) ++ row_of t k (get_or rs k None) in
    own_append k (rows_of t 0 es rs) (repeater_rows t s all)
    ∙ ap₂ (λ (xs ys : List Row). xs ++ ys) (own_stations t 0 k k es rs (omega arith) m n) (other_devices t s k all l)
    ∙ append-nil both

-- what g tells of them
module _ {X : Type 0} (g : Row → List X) (told : ℕ → Option Body → List X) (same : (t k : ℕ) (e : Option Body) → flat_map g (row_of t k e) ≡ told t e) where
  pub told_more : (t k s : ℕ) (rows : List Row) (es rs : List (Option Body)) (all : List (List Body)) → k < s → k < length es → k < length rs →
      flat_map g (own_rows k (rows ++ (rows_of t 0 es rs ++ repeater_rows t s all))) ≡ flat_map g (own_rows k rows) ++ (told t (get_or es k None) ++ told t (get_or rs k None))
  told_more t k s rows es rs all l m n =
      let now = rows_of t 0 es rs ++ repeater_rows t s all in
      let e = get_or es k None in
      let r = get_or rs k None in
      ap (flat_map g) (own_append k rows now)
      ∙ flat_map-append g (own_rows k rows) (own_rows k now)
      ∙ ap (λ xs. flat_map g (own_rows k rows) ++ xs)
      (ap (flat_map g) (own_now t k s es rs all l m n) ∙ flat_map-append g (row_of t k e) (row_of t k r) ∙ ap₂ (λ (xs ys : List X). xs ++ ys) (same t k e) (same t k r))

pub ended_row : (t k : ℕ) (e : Option Body) → flat_map (λ (row : Row). ended_frames row.body) (row_of t k e) ≡ ended_by e
ended_row t k None = refl
ended_row t k (Some body) = append-nil (ended_frames body)

pub received_row : (t k : ℕ) (e : Option Body) → flat_map (λ (row : Row). received_sizes row.t row.body) (row_of t k e) ≡ received_by t e
received_row t k None = refl
received_row t k (Some body) = append-nil (received_sizes t body)

-- what holds of each row
pub recursion_append : {X : Type 0} (P : X → Type 0) (xs ys : List X) → AllByRecursion P xs → AllByRecursion P ys → AllByRecursion P (xs ++ ys)
recursion_append P [] ys h k = k
recursion_append P (x ∷ xs) ys h k = (h.0, recursion_append P xs ys h.1 k)

has_row : (P : Row → Type 0) (t k : ℕ) (e : Option Body) → IfSome e (λ body. P (record { t = t; device = k; body = body })) → AllByRecursion P (row_of t k e)
has_row P t k None h = tt
has_row P t k (Some body) h = (h, tt)

pub has_rows : (P : Row → Type 0) (t k : ℕ) (es rs : List (Option Body))
    → ((i m : ℕ) → i < length es → m ≡ k + i → IfSome (get_or es i None) (λ body. P (record { t = t; device = m; body = body })))
    → ((i m : ℕ) → i < length rs → m ≡ k + i → IfSome (get_or rs i None) (λ body. P (record { t = t; device = m; body = body })))
    → AllByRecursion P (rows_of t k es rs)
has_rows P t k [] rs f g = tt
has_rows P t k (e ∷ es) [] f g = tt
has_rows P t k (e ∷ es) (r ∷ rs) f g =
    recursion_append P (row_of t k e ++ row_of t k r) (rows_of t (k + 1) es rs)
    (recursion_append P (row_of t k e) (row_of t k r) (has_row P t k e (f 0 k (omega arith) (omega arith))) (has_row P t k r (g 0 k (omega arith) (omega arith))))
    (has_rows P t (k + 1) es rs (λ i m l h. f (suc i) m (omega arith) (omega arith)) (λ i m l h. g (suc i) m (omega arith) (omega arith)))

has_bodies : (P : Row → Type 0) (t k : ℕ) (bodies : List Body) → AllByRecursion (λ body. P (record { t = t; device = k; body = body })) bodies → AllByRecursion P (rows_of_bodies t k bodies)
has_bodies P t k [] h = tt
has_bodies P t k (body ∷ bodies) h = (h.0, has_bodies P t k bodies h.1)

pub has_repeaters : (P : Row → Type 0) (t k : ℕ) (all : List (List Body))
    → ((i m : ℕ) → i < length all → m ≡ k + i → AllByRecursion (λ body. P (record { t = t; device = m; body = body })) (get_or all i []))
    → AllByRecursion P (repeater_rows t k all)
has_repeaters P t k [] f = tt
has_repeaters P t k (bodies ∷ all) f =
    recursion_append P (rows_of_bodies t k bodies) (repeater_rows t (k + 1) all) (has_bodies P t k bodies (f 0 k (omega arith) (omega arith)))
    (has_repeaters P t (k + 1) all (λ i m l h. f (suc i) m (omega arith) (omega arith)))
