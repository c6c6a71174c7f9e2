-- The rows of some stations among all rows.
use Rattle.std.proofs.Common.{◌≡◌, ℕ, suc, ◌+◌, ◌<◌, ◌≤◌, Bool, true, false, ◌||◌, cond, inl, inr, List, [], ◌∷◌, ◌++◌, map, filter, length, get_or, Option, Some, None, refl, sym, ap, ap₂, ◌∙◌, arith}
use Rattle.std.proofs.lemmas.Bool.{cases_eq, eq-eqb, ne_eqb}
use Rattle.collision_log.specs.declared.row.Body.{Body}
use Rattle.collision_log.specs.declared.row.Row.{Row}
use Rattle.layout.specs.declared.lines.PortLine.{PortLine}
use Rattle.network.specs.Rows.{row_of, rows_of, rows_of_bodies, repeater_rows}
use Rattle.network.specs.TapsOnSegments.{numbers_on}
use Rattle.net_parts.specs.SegmentParts.{rows_on}
use Rattle.net_parts.specs.Standing.{is_one_of}
use Rattle.network.proofs.TapsOnSegments.{numbers-here, numbers-there}

abbrev pub of_devices : List ℕ → List Row → List Row
of_devices ks rows = filter (λ (row : Row). is_one_of row.device ks) rows

pub filter-two : (p : Row → Bool) (xs ys : List Row) → filter p (xs ++ ys) ≡ filter p xs ++ filter p ys
filter-two p [] ys = refl
filter-two p (x ∷ xs) ys = elim (p x) as (λ b. (cond b (x ∷ filter p (xs ++ ys)) (filter p (xs ++ ys))) ≡ cond b (x ∷ filter p xs) (filter p xs) ++ filter p ys) [
  | true ↦ ap (λ zs. x ∷ zs) (filter-two p xs ys)
  | false ↦ filter-two p xs ys
]

pub kept : (ks : List ℕ) (t k : ℕ) (e : Option Body) → is_one_of k ks ≡ true → of_devices ks (row_of t k e) ≡ row_of t k e
kept ks t k None h = refl
kept ks t k (Some body) h = let row : Row = record { t = t; device = k; body = body } in ap (λ b. cond b (row ∷ []) []) h

pub dropped : (ks : List ℕ) (t k : ℕ) (e : Option Body) → is_one_of k ks ≡ false → of_devices ks (row_of t k e) ≡ []
dropped ks t k None h = refl
dropped ks t k (Some body) h = let row : Row = record { t = t; device = k; body = body } in ap (λ b. cond b (row ∷ []) []) h

pub none_at : (ks : List ℕ) (t k : ℕ) (bodies : List Body) → is_one_of k ks ≡ false → of_devices ks (rows_of_bodies t k bodies) ≡ []
none_at ks t k [] h = refl
none_at ks t k (body ∷ bodies) h = let row : Row = record { t = t; device = k; body = body } in ap (λ b. cond b (row ∷ of_devices ks (rows_of_bodies t k bodies)) (of_devices ks (rows_of_bodies t k bodies))) h ∙ none_at ks t k bodies h

pub kept_rows : (ks : List ℕ) (t k : ℕ) (bodies : List Body) → is_one_of k ks ≡ true → of_devices ks (rows_of_bodies t k bodies) ≡ rows_of_bodies t k bodies
kept_rows ks t k [] h = refl
kept_rows ks t k (body ∷ bodies) h =
    let row : Row = record { t = t; device = k; body = body } in
    ap (λ b. cond b (row ∷ of_devices ks (rows_of_bodies t k bodies)) (of_devices ks (rows_of_bodies t k bodies))) h ∙ ap (λ rows. row ∷ rows) (kept_rows ks t k bodies h)

-- numbers from k on are not below it
pub beyond : (s k : ℕ) (xs : List PortLine) (j : ℕ) → j < k → is_one_of j (numbers_on s k xs) ≡ false
beyond s k [] j h = refl
beyond s k (x ∷ xs) j h = elim (cases_eq x.segment s) [
  | inl on ↦ ap (is_one_of j) (numbers-here s k x xs on) ∙ ap₂ (λ a b. a || b) (ne_eqb j k (λ e. omega (arith, e))) (beyond s (k + 1) xs j (omega arith))
  | inr off ↦ ap (is_one_of j) (numbers-there s k x xs off) ∙ beyond s (k + 1) xs j (omega arith)
]

above : (s k : ℕ) (xs : List PortLine) (j : ℕ) → k + length xs ≤ j → is_one_of j (numbers_on s k xs) ≡ false
above s k [] j h = refl
above s k (x ∷ xs) j h = elim (cases_eq x.segment s) [
  | inl on ↦ ap (is_one_of j) (numbers-here s k x xs on) ∙ ap₂ (λ a b. a || b) (ne_eqb j k (λ e. omega (arith, e))) (above s (k + 1) xs j (omega arith))
  | inr off ↦ ap (is_one_of j) (numbers-there s k x xs off) ∙ above s (k + 1) xs j (omega arith)
]

-- of the stations from k on, those of the segment
stations_rows : (s t k : ℕ) (xs : List PortLine) (ks : List ℕ) (es rs : List (Option Body)) → length es ≡ length xs → length rs ≡ length xs → ((j : ℕ) → k ≤ j → is_one_of j ks ≡ is_one_of j (numbers_on s k xs)) →
    (E R : ℕ → Option Body) → ((i j : ℕ) → i < length xs → j ≡ k + i → get_or es i None ≡ E j) → ((i j : ℕ) → i < length xs → j ≡ k + i → get_or rs i None ≡ R j) →
    of_devices ks (rows_of t k es rs) ≡ rows_on t (numbers_on s k xs) (map E (numbers_on s k xs)) (map R (numbers_on s k xs))
stations_rows s t k [] ks [] [] le lr same E R he hr = refl
stations_rows s t k [] ks (e ∷ es) rs le lr same E R he hr = absurd (omega arith)
stations_rows s t k [] ks [] (r ∷ rs) le lr same E R he hr = absurd (omega arith)
stations_rows s t k (x ∷ xs) ks [] rs le lr same E R he hr = absurd (omega arith)
stations_rows s t k (x ∷ xs) ks (e ∷ es) [] le lr same E R he hr = absurd (omega arith)
stations_rows s t k (x ∷ xs) ks (e ∷ es) (r ∷ rs) le lr same E R he hr =
    let p = λ (row : Row). is_one_of row.device ks in
    let one : e ≡ E k = he 0 k (omega arith) (omega arith) in
    let two : r ≡ R k = hr 0 k (omega arith) (omega arith) in
    let both = row_of t k e ++ row_of t k r in
    let split : of_devices ks (both ++ rows_of t (k + 1) es rs) ≡ (of_devices ks (row_of t k e) ++ of_devices ks (row_of t k r)) ++ of_devices ks (rows_of t (k + 1) es rs) =
    filter-two p both (rows_of t (k + 1) es rs) ∙ ap (λ zs. zs ++ of_devices ks (rows_of t (k + 1) es rs)) (filter-two p (row_of t k e) (row_of t k r)) in
    elim (cases_eq x.segment s) [
      | inl on ↦
          let here = numbers-here s k x xs on in
          let ns = numbers_on s (k + 1) xs in
          let among : is_one_of k ks ≡ true = same k (omega arith) ∙ ap (is_one_of k) here ∙ ap (λ b. b || is_one_of k ns) (eq-eqb k k refl) in
          let rest = stations_rows s t (k + 1) xs ks es rs (omega arith) (omega arith)
          (λ j h. same j (omega arith) ∙ ap (is_one_of j) here ∙ ap (λ b. b || is_one_of j ns) (ne_eqb j k (λ z. omega (arith, z)))) E R
          (λ i j h z. he (suc i) j (omega arith) (omega arith)) (λ i j h z. hr (suc i) j (omega arith) (omega arith)) in
          split ∙ ap₂ (λ a b. a ++ b ++ of_devices ks (rows_of t (k + 1) es rs)) (kept ks t k e among ∙ ap (row_of t k) one) (kept ks t k r among ∙ ap (row_of t k) two)
          ∙ ap (λ zs. row_of t k (E k) ++ row_of t k (R k) ++ zs) rest
          ∙ sym (ap (λ ms. rows_on t ms (map E ms) (map R ms)) here)
      | inr off ↦
          let there = numbers-there s k x xs off in
          let among : is_one_of k ks ≡ false = same k (omega arith) ∙ ap (is_one_of k) there ∙ beyond s (k + 1) xs k (omega arith) in
          let rest = stations_rows s t (k + 1) xs ks es rs (omega arith) (omega arith)
          (λ j h. same j (omega arith) ∙ ap (is_one_of j) there) E R
          (λ i j h z. he (suc i) j (omega arith) (omega arith)) (λ i j h z. hr (suc i) j (omega arith) (omega arith)) in
          split ∙ ap₂ (λ a b. a ++ b ++ of_devices ks (rows_of t (k + 1) es rs)) (dropped ks t k e among) (dropped ks t k r among)
          ∙ rest ∙ sym (ap (λ ms. rows_on t ms (map E ms) (map R ms)) there)
    ]

no_repeaters : (s t n k : ℕ) (xs : List PortLine) (all : List (List Body)) → length xs ≤ k → of_devices (numbers_on s 0 xs) (repeater_rows t k all) ≡ []
no_repeaters s t n k xs [] h = refl
no_repeaters s t n k xs (bodies ∷ all) h =
    filter-two (λ (row : Row). is_one_of row.device (numbers_on s 0 xs)) (rows_of_bodies t k bodies) (repeater_rows t (k + 1) all)
    ∙ ap₂ (λ a b. a ++ b) (none_at (numbers_on s 0 xs) t k bodies (above s 0 xs k (omega arith))) (no_repeaters s t n (k + 1) xs all (omega arith))

pub append_none : (xs : List Row) → xs ++ [] ≡ xs
append_none [] = refl
append_none (x ∷ xs) = ap (λ ys. x ∷ ys) (append_none xs)

-- the rows of a half bit
pub rows_now : (s t n : ℕ) (xs : List PortLine) (old : List Row) (es rs : List (Option Body)) (all : List (List Body)) (E R : ℕ → Option Body) → length xs ≡ n → length es ≡ n → length rs ≡ n →
    ((k : ℕ) → k < n → get_or es k None ≡ E k) → ((k : ℕ) → k < n → get_or rs k None ≡ R k) →
    of_devices (numbers_on s 0 xs) (old ++ (rows_of t 0 es rs ++ repeater_rows t n all)) ≡ of_devices (numbers_on s 0 xs) old ++ rows_on t (numbers_on s 0 xs) (map E (numbers_on s 0 xs)) (map R (numbers_on s 0 xs))
rows_now s t n xs old es rs all E R lx le lr he hr =
    let ks = numbers_on s 0 xs in
    let p = λ (row : Row). is_one_of row.device ks in
    filter-two p old (rows_of t 0 es rs ++ repeater_rows t n all)
    ∙ ap (λ zs. of_devices ks old ++ zs) (
    filter-two p (rows_of t 0 es rs) (repeater_rows t n all)
    ∙ ap₂ (λ a b. a ++ b)
    (stations_rows s t 0 xs ks es rs (omega (arith, lx, le)) (omega (arith, lx, lr)) (λ j h. refl) E R
    (λ i j h z. (let same : i ≡ j = omega (arith, z) in ap (λ m. get_or es m None) same) ∙ he j (omega (arith, lx)))
    (λ i j h z. (let same : i ≡ j = omega (arith, z) in ap (λ m. get_or rs m None) same) ∙ hr j (omega (arith, lx))))
    (no_repeaters s t n n xs all (omega (arith, lx)))
    ∙ append_none _)
