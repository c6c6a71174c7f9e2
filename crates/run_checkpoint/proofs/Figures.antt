-- Numbers of any length, and yes or no: what is written is read back, and what is read stands there.
use Rattle.std.proofs.Common.{◌≡◌, ℕ, ◌^◌, ◌<◌, Bool, true, false, List, ◌++◌, drop, refl, ap, ◌∙◌, arith, Some, None}
use Rattle.std.specs.Char.{is_ascii_digit}
use Rattle.std.specs.List.{prefix_len}
use Rattle.std.specs.Fmt.{decimal}
use Rattle.std.specs.Prelude.{Option, codes}
use Rattle.std.proofs.lemmas.Option.{same_Some, cond_some}
use Rattle.std.proofs.lemmas.Slice.Eq.{bytes_eq-Decides}
use Rattle.std.specs.Str.{bytes_eq}
use Rattle.text_fields.specs.Reading.{Read, after_word, decimal_at, else_read}
use Rattle.text_fields.proofs.FoundFields.{bind_is, bind_some, word_again, word_text}
use Rattle.text_fields.proofs.Numbers.{begins_with_digit, number_again, number_text}
use Rattle.run_checkpoint.specs.Fields.{any_number_at, begins_number, beyond_ranges, figure_at, long_number_at, truth_at, truth_found, whole_line, yes_or_no_at}
use Rattle.run_checkpoint.specs.LineTexts.{yes_or_no}

any_number_again : (n : ℕ) (rest : List ℕ) → n < 2 ^ 32 → begins_with_digit rest ≡ false → any_number_at (decimal n ++ rest) ≡ Some (n, rest)
unfolding any_number_at
any_number_again n rest fits stops = rw (number_again n rest fits stops) refl

pub figure_again : (word : List ℕ) (n : ℕ) (rest : List ℕ) → n < 2 ^ 32 → begins_with_digit rest ≡ false → figure_at word (word ++ (decimal n ++ rest)) ≡ Some (n, rest)
unfolding figure_at
figure_again word n rest fits stops = bind_is _ any_number_at (decimal n ++ rest) _ (word_again word (decimal n ++ rest)) (any_number_again n rest fits stops)

any_number_found : (xs : List ℕ) (a : Read ℕ) (v : ℕ) (rest : List ℕ) → decimal_at xs ≡ a → else_read a (long_number_at xs) ≡ Some (v, rest) → v < beyond_ranges → (xs ≡ decimal v ++ rest) × (v < 2 ^ 32)
unfolding long_number_at
any_number_found xs (Some y) v rest e h small = number_text xs v rest (e ∙ h)
any_number_found xs None v rest e h small =
    let test = cond_some (begins_number xs) (beyond_ranges, drop (prefix_len is_ascii_digit xs) xs) (v, rest) h in
    let beyond : beyond_ranges ≡ v = ap (λ (p : ℕ × List ℕ). p.0) test.1 in
    absurd (omega (arith, beyond, small))

any_number_text : (xs : List ℕ) (v : ℕ) (rest : List ℕ) → any_number_at xs ≡ Some (v, rest) → v < beyond_ranges → (xs ≡ decimal v ++ rest) × (v < 2 ^ 32)
unfolding any_number_at
any_number_text xs v rest h small = any_number_found xs (decimal_at xs) v rest refl h small

pub figure_text : (word octets : List ℕ) (n : ℕ) (rest : List ℕ) → figure_at word octets ≡ Some (n, rest) → n < beyond_ranges → (octets ≡ word ++ (decimal n ++ rest)) × (n < 2 ^ 32)
unfolding figure_at
figure_text word octets n rest h small =
    let b = bind_some (after_word word octets) any_number_at (n, rest) h in
    let number = any_number_text b.0 n rest b.2 small in
    (word_text word octets b.0 b.1 ∙ ap (λ l. word ++ l) number.0, number.1)

yes_or_no_again : (answer : Bool) (rest : List ℕ) → yes_or_no_at (yes_or_no answer ++ rest) ≡ Some (answer, rest)
unfolding yes_or_no_at
yes_or_no_again true rest = refl
yes_or_no_again false rest = refl

pub truth_again : (word : List ℕ) (answer : Bool) (rest : List ℕ) → truth_at word (word ++ (yes_or_no answer ++ rest)) ≡ Some (answer, rest)
unfolding truth_at
truth_again word answer rest = bind_is _ yes_or_no_at (yes_or_no answer ++ rest) _ (word_again word (yes_or_no answer ++ rest)) (yes_or_no_again answer rest)

answer_found : (octets : List ℕ) (a b : Option (List ℕ)) (answer : Bool) (rest : List ℕ) → after_word (codes "yes") octets ≡ a → after_word (codes "no") octets ≡ b
    → else_read (truth_found true a) (truth_found false b) ≡ Some (answer, rest) → octets ≡ yes_or_no answer ++ rest
answer_found octets (Some tail) b answer rest first second h =
    let e = same_Some _ _ h in
    rw (← ap (λ (p : Bool × List ℕ). p.0) e, ← ap (λ (p : Bool × List ℕ). p.1) e) (word_text (codes "yes") octets tail first)
answer_found octets None (Some tail) answer rest first second h =
    let e = same_Some _ _ h in
    rw (← ap (λ (p : Bool × List ℕ). p.0) e, ← ap (λ (p : Bool × List ℕ). p.1) e) (word_text (codes "no") octets tail second)
answer_found octets None None answer rest first second h = cc h

yes_or_no_text : (octets : List ℕ) (answer : Bool) (rest : List ℕ) → yes_or_no_at octets ≡ Some (answer, rest) → octets ≡ yes_or_no answer ++ rest
unfolding yes_or_no_at
yes_or_no_text octets answer rest h = answer_found octets (after_word (codes "yes") octets) (after_word (codes "no") octets) answer rest refl refl h

pub truth_text : (word octets : List ℕ) (answer : Bool) (rest : List ℕ) → truth_at word octets ≡ Some (answer, rest) → octets ≡ word ++ (yes_or_no answer ++ rest)
unfolding truth_at
truth_text word octets answer rest h =
    let b = bind_some (after_word word octets) yes_or_no_at (answer, rest) h in
    word_text word octets b.0 b.1 ∙ ap (λ l. word ++ l) (yes_or_no_text b.0 answer rest b.2)

-- a line that was read as a whole has nothing but its line feed left
pub whole_text : {A : Type 0} (x y : A) (rest : List ℕ) → whole_line x rest ≡ Some y → (x ≡ y) × (rest ≡ codes "\n")
whole_text x y rest h =
    let test = cond_some (bytes_eq rest (codes "\n")) x y h in
    (test.1, (bytes_eq-Decides rest (codes "\n")).0 test.0)
