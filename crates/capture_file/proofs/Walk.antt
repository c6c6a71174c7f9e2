-- The records of a capture, one after the other.
use Rattle.std.proofs.Common.{◌≡◌, ℕ, zero, suc, ◌+◌, ◌*◌, ◌-◌, ◌<◌, ◌≤◌, true, false, List, [], ◌∷◌, ◌++◌, length, take, drop, refl, sym, ap, ap₂, ◌∙◌, inl, inr, Option, Some, None, arith, length-append, length-drop}
use Rattle.std.specs.Prelude.{if◌then◌else◌}
use Rattle.std.proofs.lemmas.Bool.Decides.{nat_tests}
use Rattle.std.proofs.lemmas.Bool.{cases_Bool}
use Rattle.std.proofs.lemmas.List.{drop-append-le, drop-drop, take-append-le}
use Rattle.byteorder.specs.Numbers.{big_from-append, little_from-append}
use Rattle.capture_file.specs.declared.entries.Record.{Record}
use Rattle.capture_file.specs.declared.form.Form.{Form}
use Rattle.capture_file.specs.declared.form.Order.{Order}
use Rattle.capture_file.specs.declared.form.Order.TheVariants.{Little, Big}
use Rattle.capture_file.specs.Captures.{number, field, captured_length, is_whole, is_overlong, record_at, records_in, rest_in, unit, form_by, form_of, header, judged_form}

-- passing over octets is dropping them
pub records_in-drop : (form : Form) (n : ℕ) (xs : List ℕ) → records_in form n xs ≡ records_in form 0 (drop n xs)
records_in-drop form zero xs = refl
records_in-drop form (suc n) [] = refl
records_in-drop form (suc n) (x ∷ xs) = records_in-drop form n xs

pub rest_in-drop : (form : Form) (n : ℕ) (xs : List ℕ) → rest_in form n xs ≡ rest_in form 0 (drop n xs)
rest_in-drop form zero xs = refl
rest_in-drop form (suc n) [] = refl
rest_in-drop form (suc n) (x ∷ xs) = rest_in-drop form n xs

-- what is known where a whole record stands in front
pub record IsWhole (form : Form) (xs : List ℕ) : Type 0 where
  pub header : 16 ≤ length xs
  pub few : captured_length form xs ≤ 262144
  pub room : 16 + captured_length form xs ≤ length xs

pub whole_parts : (form : Form) (xs : List ℕ) → is_whole form xs ≡ true → IsWhole form xs
unfolding is_whole
whole_parts form xs h = record {
  header = grind (arith, nat_tests);
  few = grind (arith, nat_tests);
  room = grind (arith, nat_tests);
}

pub is_whole-parts : (form : Form) (xs : List ℕ) → IsWhole form xs → is_whole form xs ≡ true
unfolding is_whole
is_whole-parts form xs h = grind (arith, nat_tests, h.header, h.few, h.room)

-- the first record, where it is whole
pub records_step : (form : Form) (xs : List ℕ) → is_whole form xs ≡ true → records_in form 0 xs ≡ record_at form xs ∷ records_in form 0 (drop (16 + captured_length form xs) xs)
records_step form [] h = let w = whole_parts form [] h in grind (arith, w.header)
records_step form (x ∷ xs) h =
    let n = captured_length form (x ∷ xs) in
    let e : 16 + n ≡ suc (15 + n) = omega arith in
    rw (h, records_in-drop form (15 + n) xs, e) refl

pub rest_step : (form : Form) (xs : List ℕ) → is_whole form xs ≡ true → rest_in form 0 xs ≡ rest_in form 0 (drop (16 + captured_length form xs) xs)
rest_step form [] h = let w = whole_parts form [] h in grind (arith, w.header)
rest_step form (x ∷ xs) h =
    let n = captured_length form (x ∷ xs) in
    let e : 16 + n ≡ suc (15 + n) = omega arith in
    rw (h, rest_in-drop form (15 + n) xs, e) refl

-- no whole record
pub records_stop : (form : Form) (xs : List ℕ) → is_whole form xs ≡ false → records_in form 0 xs ≡ []
records_stop form [] h = refl
records_stop form (x ∷ xs) h = rw h refl

pub rest_stop : (form : Form) (xs : List ℕ) → is_whole form xs ≡ false → rest_in form 0 xs ≡ xs
rest_stop form [] h = refl
rest_stop form (x ∷ xs) h = rw h refl

-- what is left is less than a record may have, unless one is too long
pub rest_is_short : (form : Form) (xs : List ℕ) → is_whole form xs ≡ false → is_overlong form xs ≡ false → length xs ≤ 262159
unfolding is_whole is_overlong
rest_is_short form xs h l = grind (arith, nat_tests)

-- a list that another one ends with
pub record IsEnd (rest xs : List ℕ) : Type 0 where
  pub within : length rest ≤ length xs
  pub same : drop (length xs - length rest) xs ≡ rest

IsEnd-refl : (xs : List ℕ) → IsEnd xs xs
IsEnd-refl xs =
    let e : length xs - length xs ≡ 0 = omega arith in
    record { within = omega arith; same = rw e refl }

IsEnd-cons : (rest : List ℕ) (x : ℕ) (xs : List ℕ) → IsEnd rest xs → IsEnd rest (x ∷ xs)
IsEnd-cons rest x xs h =
    let e : suc (length xs) - length rest ≡ suc (length xs - length rest) = omega (arith, h.within) in
    record { within = omega (arith, h.within); same = rw e h.same }

IsEnd-nil : IsEnd [] []
IsEnd-nil = record { within = omega arith; same = refl }

-- a capture ends with the octets after its whole records
pub IsEnd-rest_in : (form : Form) (n : ℕ) (xs : List ℕ) → IsEnd (rest_in form n xs) xs
IsEnd-rest_in form zero [] = IsEnd-nil
IsEnd-rest_in form (suc n) [] = IsEnd-nil
IsEnd-rest_in form (suc n) (x ∷ xs) = IsEnd-cons (rest_in form n xs) x xs (IsEnd-rest_in form n xs)
IsEnd-rest_in form zero (x ∷ xs) =
    elim (is_whole form (x ∷ xs)) as (λ b. IsEnd (if b then rest_in form (15 + captured_length form (x ∷ xs)) xs else x ∷ xs) (x ∷ xs)) [
      | true ↦ IsEnd-cons (rest_in form (15 + captured_length form (x ∷ xs)) xs) x xs (IsEnd-rest_in form (15 + captured_length form (x ∷ xs)) xs)
      | false ↦ IsEnd-refl (x ∷ xs)
    ]

-- the last octets of a list are the last of what is left of it
pub last_of_drop : (m n : ℕ) (xs : List ℕ) → m ≤ length xs → n ≤ length (drop m xs) → drop (length xs - n) xs ≡ drop (length (drop m xs) - n) (drop m xs)
last_of_drop m n xs h k =
    let len = length-drop m xs in
    let e : m + (length (drop m xs) - n) ≡ length xs - n = omega (arith, len, h, k) in
    sym (drop-drop (length (drop m xs) - n) m xs ∙ ap (λ i. drop i xs) e)

-- a capture ends with the octets after its whole records
pub rest_is_last : (form : Form) (xs : List ℕ) → drop (length xs - length (rest_in form 0 xs)) xs ≡ rest_in form 0 xs
rest_is_last form xs = (IsEnd-rest_in form 0 xs).same

-- a number reads its own octets alone
number-append : (order : Order) (n : ℕ) (xs ys : List ℕ) → n ≤ length xs → number order n (xs ++ ys) ≡ number order n xs
unfolding number
number-append Little n xs ys h = little_from-append n xs ys h
number-append Big n xs ys h = big_from-append n xs ys h

pub field-append : (order : Order) (n place : ℕ) (xs ys : List ℕ) → place + n ≤ length xs → field order n place (xs ++ ys) ≡ field order n place xs
field-append order n place xs ys h =
    ap (number order n) (drop-append-le place xs ys (omega (arith, h)))
    ∙ number-append order n (drop place xs) ys (omega (arith, h, length-drop place xs))

-- a whole record stays the first one
pub captured-append : (form : Form) (xs ys : List ℕ) → 16 ≤ length xs → captured_length form (xs ++ ys) ≡ captured_length form xs
captured-append form xs ys h = field-append form.order 4 8 xs ys (omega (arith, h))

is_whole-append : (form : Form) (xs ys : List ℕ) → is_whole form xs ≡ true → is_whole form (xs ++ ys) ≡ true
is_whole-append form xs ys h =
    let w = whole_parts form xs h in
    let e = captured-append form xs ys w.header in
    let len = length-append xs ys in
    is_whole-parts form (xs ++ ys) (record {
      header = omega (arith, w.header, len);
      few = omega (arith, w.few, e);
      room = omega (arith, w.room, e, len);
    })

same_record : (a b c d : ℕ) (xs ys : List ℕ) → a ≡ b → c ≡ d → xs ≡ ys → ◌≡◌ {A = Record} (record { nanos = a; original = c; octets = xs }) (record { nanos = b; original = d; octets = ys })
same_record a b c d xs ys e f g = rw (e, f, g) refl

record_at-append : (form : Form) (xs ys : List ℕ) → is_whole form xs ≡ true → record_at form (xs ++ ys) ≡ record_at form xs
record_at-append form xs ys h =
    let w = whole_parts form xs h in
    let n = captured_length form xs in
    let e = captured-append form xs ys w.header in
    let seconds = field-append form.order 4 0 xs ys (omega (arith, w.header)) in
    let fraction = field-append form.order 4 4 xs ys (omega (arith, w.header)) in
    same_record _ _ _ _ _ _
    (ap₂ (λ s f. s * 1000000000 + f * unit form.fraction) seconds fraction)
    (field-append form.order 4 12 xs ys (omega (arith, w.header)))
    (ap₂ take e (drop-append-le 16 xs ys w.header) ∙ take-append-le n (drop 16 xs) ys (omega (arith, w.room, length-drop 16 xs)))

drop-whole : (form : Form) (xs ys : List ℕ) → is_whole form xs ≡ true → drop (16 + captured_length form (xs ++ ys)) (xs ++ ys) ≡ drop (16 + captured_length form xs) xs ++ ys
drop-whole form xs ys h =
    let w = whole_parts form xs h in
    ap (λ n. drop (16 + n) (xs ++ ys)) (captured-append form xs ys w.header) ∙ drop-append-le (16 + captured_length form xs) xs ys w.room

-- what comes later is read on from the rest
pub record GoesOn (form : Form) (xs ys : List ℕ) : Type 0 where
  pub records : records_in form 0 (xs ++ ys) ≡ records_in form 0 xs ++ records_in form 0 (rest_in form 0 xs ++ ys)
  pub rest : rest_in form 0 (xs ++ ys) ≡ rest_in form 0 (rest_in form 0 xs ++ ys)

goes_on_stopped : (form : Form) (xs ys : List ℕ) → is_whole form xs ≡ false → GoesOn form xs ys
goes_on_stopped form xs ys h =
    let none = records_stop form xs h in
    let rest = rest_stop form xs h in
    record { records = rw (none, rest) refl; rest = rw rest refl }

goes_on_whole : (form : Form) (xs ys : List ℕ) → is_whole form xs ≡ true → GoesOn form (drop (16 + captured_length form xs) xs) ys → GoesOn form xs ys
goes_on_whole form xs ys h more =
    let whole = is_whole-append form xs ys h in
    let first = record_at-append form xs ys h in
    let behind = drop-whole form xs ys h in
    let one = records_step form xs h in
    let both = records_step form (xs ++ ys) whole in
    let rest = rest_step form xs h in
    let rests = rest_step form (xs ++ ys) whole in
    record {
      records = rw (both, first, behind, more.records, one, rest) refl;
      rest = rw (rests, behind, more.rest, rest) refl;
    }

goes_on_within : (n : ℕ) (form : Form) (xs ys : List ℕ) → length xs ≤ n → GoesOn form xs ys
goes_on_within zero form xs ys h =
    elim (cases_Bool (is_whole form xs)) [
      | inl w ↦ let parts = whole_parts form xs w in absurd (omega (arith, parts.header, h))
      | inr w ↦ goes_on_stopped form xs ys w
    ]
goes_on_within (suc n) form xs ys h =
    elim (cases_Bool (is_whole form xs)) [
      | inl w ↦
          let parts = whole_parts form xs w in
          let less : length (drop (16 + captured_length form xs) xs) ≤ n = omega (arith, parts.room, h, length-drop (16 + captured_length form xs) xs) in
          goes_on_whole form xs ys w (goes_on_within n form (drop (16 + captured_length form xs) xs) ys less)
      | inr w ↦ goes_on_stopped form xs ys w
    ]

pub goes_on : (form : Form) (xs ys : List ℕ) → GoesOn form xs ys
goes_on form xs ys = goes_on_within (length xs) form xs ys (omega arith)

not_whole_nil : (form : Form) → is_whole form [] ≡ false
unfolding is_whole
not_whole_nil form = refl

-- what stands in front of the rest is no whole record
pub rest_in-stops : (form : Form) (n : ℕ) (xs : List ℕ) → is_whole form (rest_in form n xs) ≡ false
rest_in-stops form zero [] = not_whole_nil form
rest_in-stops form (suc n) [] = not_whole_nil form
rest_in-stops form (suc n) (x ∷ xs) = rest_in-stops form n xs
rest_in-stops form zero (x ∷ xs) =
    elim (cases_Bool (is_whole form (x ∷ xs))) [
      | inl w ↦ rw w (rest_in-stops form (15 + captured_length form (x ∷ xs)) xs)
      | inr w ↦ rw w w
    ]

-- a record that is too long stays so, and is never whole
pub record StaysLong (form : Form) (xs ys : List ℕ) : Type 0 where
  pub long : is_overlong form (xs ++ ys) ≡ true
  pub whole : is_whole form (xs ++ ys) ≡ false

-- what is known where a record's header says that it has too many octets
pub record IsLong (form : Form) (xs : List ℕ) : Type 0 where
  pub header : 16 ≤ length xs
  pub many : 262144 < captured_length form xs

long_parts : (form : Form) (xs : List ℕ) → is_overlong form xs ≡ true → IsLong form xs
unfolding is_overlong
long_parts form xs h = record { header = grind (arith, nat_tests); many = grind (arith, nat_tests) }

long_again : (form : Form) (xs : List ℕ) → IsLong form xs → is_overlong form xs ≡ true
unfolding is_overlong
long_again form xs h = grind (arith, nat_tests, h.header, h.many)

long_is_not_whole : (form : Form) (xs : List ℕ) → IsLong form xs → is_whole form xs ≡ false
unfolding is_whole
long_is_not_whole form xs h = grind (arith, nat_tests, h.header, h.many)

pub stays_long : (form : Form) (xs ys : List ℕ) → is_overlong form xs ≡ true → StaysLong form xs ys
stays_long form xs ys h =
    let parts = long_parts form xs h in
    let e = captured-append form xs ys parts.header in
    let both : IsLong form (xs ++ ys) = record { header = omega (arith, parts.header, length-append xs ys); many = omega (arith, parts.many, e) } in
    record { long = long_again form (xs ++ ys) both; whole = long_is_not_whole form (xs ++ ys) both }

-- the form and the faults of a header are those of its 24 octets
form_of-append : (xs ys : List ℕ) → 24 ≤ length xs → form_of (xs ++ ys) ≡ form_of xs
form_of-append xs ys h = ap form_by (number-append Big 4 xs ys (omega (arith, h)))

judged-append : (form : Option Form) (xs ys : List ℕ) → 24 ≤ length xs → judged_form form (xs ++ ys) ≡ judged_form form xs
judged-append None xs ys h = refl
judged-append (Some form) xs ys h =
    let major = field-append form.order 2 4 xs ys (omega (arith, h)) in
    let minor = field-append form.order 2 6 xs ys (omega (arith, h)) in
    let link = field-append form.order 4 20 xs ys (omega (arith, h)) in
    rw (major, minor, link) refl

pub header-append : (xs ys : List ℕ) → 24 ≤ length xs → header (xs ++ ys) ≡ header xs
unfolding header
header-append xs ys h = ap (λ f. judged_form f (xs ++ ys)) (form_of-append xs ys h) ∙ judged-append (form_of xs) xs ys h
