-- A number that was read is the text of its value, and the text of a number is read back.
use Rattle.std.proofs.Common.{◌≡◌, ℕ, ◌+◌, ◌-◌, ◌*◌, ◌/◌, ◌%◌, ◌^◌, ◌<◌, ◌≤◌, ◌++◌, List, [], ◌∷◌, length, drop, slice_index, Some, None, Bool, true, false, refl, sym, ◌∙◌, arith, inl, inr, append_assoc, length-append}
use Rattle.std.proofs.lemmas.Bool.{cases_Bool, cases_lt, le-leb, lt-leb, lt-ltb}
use Rattle.std.proofs.lemmas.Fmt.{decimal_by_steps, decimal_digit, decimal_nonempty, decimal_step}
use Rattle.std.proofs.lemmas.List.{drop_more, drop_all}
use Rattle.std.proofs.lemmas.Option.{some_pair_parts}
use Rattle.std.specs.Fmt.{decimal}
use Rattle.std.specs.Char.{is_ascii_digit}
use Rattle.text_fields.specs.Reading.{digits_ended, digits_on, follows_zero, decimal_at}

-- no digit comes next
pub digits_stop : (value len : ℕ) (xs : List ℕ) (i : ℕ) → i < length xs → is_ascii_digit (slice_index xs i) ≡ false → digits_on value len (drop i xs) ≡ digits_ended value len (drop i xs)
unfolding digits_on
digits_stop value len xs i lt d = rw (drop_more xs i 0 lt, d) refl

-- no octet comes next
pub digits_all : (value len : ℕ) (xs : List ℕ) (i : ℕ) → length xs ≤ i → digits_on value len (drop i xs) ≡ digits_ended value len (drop i xs)
unfolding digits_on
digits_all value len xs i le = rw (drop_all i xs le) refl

-- a digit follows a first zero
pub digits_zero : (value len : ℕ) (xs : List ℕ) (i : ℕ) → i < length xs → is_ascii_digit (slice_index xs i) ≡ true → follows_zero value len ≡ true → digits_on value len (drop i xs) ≡ None
unfolding digits_on
digits_zero value len xs i lt d z = rw (drop_more xs i 0 lt, d, z) refl

-- the number has more than 32 bits
pub digits_over : (value len : ℕ) (xs : List ℕ) (i : ℕ) → i < length xs → is_ascii_digit (slice_index xs i) ≡ true → follows_zero value len ≡ false
    → 2 ^ 32 ≤ value * 10 + (slice_index xs i - 48) → digits_on value len (drop i xs) ≡ None
unfolding digits_on
digits_over value len xs i lt d z big = rw (drop_more xs i 0 lt, d, z, le-leb _ _ big) refl

-- one digit more
pub digits_next : (value len : ℕ) (xs : List ℕ) (i : ℕ) → i < length xs → is_ascii_digit (slice_index xs i) ≡ true → follows_zero value len ≡ false
    → value * 10 + (slice_index xs i - 48) < 2 ^ 32 → digits_on value len (drop i xs) ≡ digits_on (value * 10 + (slice_index xs i - 48)) (len + 1) (drop (i + 1) xs)
unfolding digits_on
digits_next value len xs i lt d z small = rw (drop_more xs i 0 lt, d, z, lt-leb _ _ small) refl

-- digits that ended give what was read, and there was at least one
digits_ended-some : (value len : ℕ) (xs : List ℕ) (v : ℕ) (rest : List ℕ) → digits_ended value len xs ≡ Some (v, rest) → (0 < len) × (value ≡ v) × (xs ≡ rest)
digits_ended-some value len xs v rest h = elim (cases_lt 0 len) [
  | inl some ↦ let p = some_pair_parts _ _ _ _ (rw (lt-ltb 0 len some) at h) in (some, p.0, p.1)
  | inr none ↦
      let e : len ≡ 0 = omega arith in
      cc (rw e at h)
]

-- one digit more at the end of a number
number_longer : (value len b : ℕ) (front : List ℕ) → is_ascii_digit b ≡ true → follows_zero value len ≡ false → value * 10 + (b - 48) < 2 ^ 64
    → (len ≡ 0 → (front ≡ []) × (value ≡ 0)) → (0 < len → front ≡ decimal value) → front ++ b ∷ [] ≡ decimal (value * 10 + (b - 48))
number_longer value len b front d z small start run =
    let range : (48 ≤ b) × (b ≤ 57) = grind arith in
    elim (cases_lt 0 len) [
      | inl some ↦
          let other : 0 < value = grind arith in
          let step = decimal_step (value * 10 + (b - 48)) (omega arith) small in
          let top : (value * 10 + (b - 48)) / 10 ≡ value = omega arith in
          let low : 48 + (value * 10 + (b - 48)) % 10 ≡ b = omega arith in
          rw (run some) (sym (rw (top, low) at step))
      | inr none ↦
          let s = start (omega arith) in
          let e : value * 10 + (b - 48) ≡ b - 48 = rw s.1 (omega arith) in
          let low : 48 + (b - 48) ≡ b = omega arith in
          rw (s.0, e, decimal_digit (b - 48) (omega arith), low) refl
    ]

-- digits that were read are the text of what they give, with what is left after it
digits_text : (value len : ℕ) (xs front : List ℕ) (v : ℕ) (rest : List ℕ)
    → (len ≡ 0 → (front ≡ []) × (value ≡ 0)) → (0 < len → front ≡ decimal value) → value < 2 ^ 32
    → digits_on value len xs ≡ Some (v, rest)
    → (front ++ xs ≡ decimal v ++ rest) × (v < 2 ^ 32)
unfolding digits_on
digits_text value len [] front v rest start run fits h =
    let d = digits_ended-some value len [] v rest h in
    (rw (run d.0, d.1, ← d.2) refl, rw (← d.1) fits)
digits_text value len (b ∷ r) front v rest start run fits h =
    elim (cases_Bool (is_ascii_digit b)) [
      | inl digit ↦ elim (cases_Bool (follows_zero value len)) [
        | inl leading ↦ cc (rw (digit, leading) at h)
        | inr plain ↦ elim (cases_lt (value * 10 + (b - 48)) (2 ^ 32)) [
          | inl small ↦
              let more = rw (digit, plain, lt-leb _ _ small) at h in
              let next = number_longer value len b front digit plain (omega arith) start run in
              let ih = digits_text (value * 10 + (b - 48)) (len + 1) r (front ++ b ∷ []) v rest (λ e. absurd (omega arith)) (λ _. next) small more in
              (sym (append_assoc front (b ∷ []) r) ∙ ih.0, ih.1)
          | inr big ↦ cc (rw (digit, plain, le-leb _ _ big) at h)
        ]
      ]
      | inr other ↦
          let d = digits_ended-some value len (b ∷ r) v rest (rw other at h) in
          (rw (run d.0, d.1, d.2) refl, rw (← d.1) fits)
    ]

-- a number that was read is the text of its value, with the rest after it
pub number_text : (xs : List ℕ) (v : ℕ) (rest : List ℕ) → decimal_at xs ≡ Some (v, rest) → (xs ≡ decimal v ++ rest) × (v < 2 ^ 32)
number_text xs v rest h = digits_text 0 0 xs [] v rest (λ _. (refl, refl)) (λ e. absurd (omega arith)) (omega arith) h

-- one digit more
digits_cons : (value len b : ℕ) (r : List ℕ) → is_ascii_digit b ≡ true → follows_zero value len ≡ false
    → value * 10 + (b - 48) < 2 ^ 32 → digits_on value len (b ∷ r) ≡ digits_on (value * 10 + (b - 48)) (len + 1) r
unfolding digits_on
digits_cons value len b r d z small = rw (d, z, lt-leb _ _ small) refl

abbrev Runs : ℕ → List ℕ → Type 0
Runs n ds = n < 2 ^ 32 → (rest : List ℕ) → digits_on 0 0 (ds ++ rest) ≡ digits_on n (length ds) rest

-- the digits of a number, read from the front
digits_run : (n : ℕ) → n < 2 ^ 32 → (rest : List ℕ) → digits_on 0 0 (decimal n ++ rest) ≡ digits_on n (length (decimal n)) rest
digits_run n fits rest = decimal_by_steps Runs
    (λ k low small r.
    let d : is_ascii_digit (48 + k) ≡ true = grind arith in
    let e : 0 * 10 + ((48 + k) - 48) ≡ k = omega arith in
    digits_cons 0 0 (48 + k) r d refl (omega arith) ∙ rw e refl)
    (λ k ds big ih small r.
    let top : k / 10 < 2 ^ 32 = omega arith in
    let g = 48 + k % 10 in
    let d : is_ascii_digit g ≡ true = grind arith in
    let z : follows_zero (k / 10) (length ds) ≡ false = grind arith in
    let e : (k / 10) * 10 + (g - 48) ≡ k = omega arith in
    let l : length ds + 1 ≡ length (ds ++ g ∷ []) = sym (length-append ds (g ∷ [])) in
    rw (append_assoc ds (g ∷ []) r) (ih top (g ∷ r) ∙ digits_cons (k / 10) (length ds) g r d z (omega arith) ∙ rw (e, l) refl))
    n (omega arith) fits rest

-- whether a text begins with a digit
abbrev pub begins_with_digit : List ℕ → Bool
begins_with_digit [] = false
begins_with_digit (b ∷ r) = is_ascii_digit b

-- the text of a number is read back
pub number_again : (v : ℕ) (rest : List ℕ) → v < 2 ^ 32 → begins_with_digit rest ≡ false → decimal_at (decimal v ++ rest) ≡ Some (v, rest)
unfolding digits_on
number_again v [] fits h =
    let some = decimal_nonempty v (omega arith) in
    rw (digits_run v fits [], lt-ltb 0 (length (decimal v)) some) refl
number_again v (b ∷ r) fits h =
    let some = decimal_nonempty v (omega arith) in
    rw (digits_run v fits (b ∷ r), h, lt-ltb 0 (length (decimal v)) some) refl
