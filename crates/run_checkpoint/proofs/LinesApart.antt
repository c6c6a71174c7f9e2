-- The lines of a text: each up to its line feed.
use Rattle.std.proofs.Common.{◌≡◌, ℕ, zero, suc, ◌+◌, ◌-◌, ◌<◌, ◌==◌, true, false, List, [], ◌∷◌, ◌++◌, flat_map, length, take, drop, refl, sym, ap, ◌∙◌, arith, inl, inr}
use Rattle.std.specs.Prelude.{◌≢◌}
use Rattle.std.specs.List.{prefix_len}
use Rattle.std.proofs.lemmas.Bool.{cases_Bool, eqb-true}
use Rattle.run_checkpoint.specs.TextLines.{is_within_line, onto_first_line, text_lines}
use Rattle.run_texts.proofs.HeldOctets.{either, holds}

-- a line without another line feed stands in front
pub line_apart : (xs more : List ℕ) → holds 10 xs ≡ false → text_lines ((xs ++ 10 ∷ []) ++ more) ≡ (xs ++ 10 ∷ []) ∷ text_lines more
line_apart [] more none = refl
line_apart (x ∷ xs) more none =
    let parts : ((x == 10) ≡ false) × (holds 10 xs ≡ false) = either (x == 10) (holds 10 xs) none in
    rw (parts.0, line_apart xs more parts.1) refl

-- a text with a line feed at its end and nowhere else
pub record IsOneTextLine (line : List ℕ) : Type 0 where
  pub text : List ℕ
  pub none : holds 10 text ≡ false
  pub is : line ≡ text ++ 10 ∷ []

abbrev pub AreTextLines : List (List ℕ) → Type 0
AreTextLines [] = Unit {0}
AreTextLines (l ∷ ls) = IsOneTextLine l × AreTextLines ls

pub text_lines_append : (ls ms : List (List ℕ)) → AreTextLines ls → AreTextLines ms → AreTextLines (ls ++ ms)
text_lines_append [] ms one two = two
text_lines_append (l ∷ ls) ms one two = (one.0, text_lines_append ls ms one.1 two)

-- lines are found again in their text
pub lines_again : (ls : List (List ℕ)) → AreTextLines ls → text_lines (flat_map (λ line. line) ls) ≡ ls
lines_again [] all = refl
lines_again (l ∷ ls) all =
    let more = flat_map (λ (line : List ℕ). line) ls in
    ap (λ (x : List ℕ). text_lines (x ++ more)) all.0.is ∙ line_apart all.0.text more all.0.none ∙ rw (lines_again ls all.1, ← all.0.is) refl

-- an octet before the first line
onto_text : (c : ℕ) (ls : List (List ℕ)) → flat_map (λ line. line) (onto_first_line c ls) ≡ c ∷ flat_map (λ line. line) ls
onto_text c [] = refl
onto_text c (l ∷ ls) = refl

-- the lines of a text are the text
pub lines_whole : (xs : List ℕ) → flat_map (λ line. line) (text_lines xs) ≡ xs
lines_whole [] = refl
lines_whole (c ∷ cs) =
    elim (cases_Bool (c == 10)) [
      | inl feed ↦ rw feed (ap (λ (ys : List ℕ). c ∷ ys) (lines_whole cs))
      | inr other ↦ rw other (onto_text c (text_lines cs) ∙ ap (λ (ys : List ℕ). c ∷ ys) (lines_whole cs))
    ]

-- the first line, up to the first line feed
front_line : (xs : List ℕ) (n : ℕ) → prefix_len is_within_line xs ≡ n → n < length xs → text_lines xs ≡ take (suc n) xs ∷ text_lines (drop (suc n) xs)
front_line [] n e lt = absurd (omega (arith, lt))
front_line (c ∷ cs) zero e lt =
    elim (cases_Bool (c == 10)) [
      | inl feed ↦ rw feed refl
      | inr other ↦ absurd (omega (arith, rw other at e))
    ]
front_line (c ∷ cs) (suc n) e lt =
    elim (cases_Bool (c == 10)) [
      | inl feed ↦ absurd (omega (arith, rw feed at e))
      | inr other ↦ rw other (ap (onto_first_line c) (front_line cs n (omega (arith, rw other at e)) (omega (arith, lt))))
    ]

-- a text without a line feed is one line
pub last_line : (xs : List ℕ) → xs ≢ [] → prefix_len is_within_line xs ≡ length xs → text_lines xs ≡ xs ∷ []
last_line [] some e = absurd (some refl)
last_line (c ∷ []) some e =
    elim (cases_Bool (c == 10)) [
      | inl feed ↦ absurd (omega (arith, rw feed at e))
      | inr other ↦ rw other refl
    ]
last_line (c ∷ d ∷ cs) some e =
    elim (cases_Bool (c == 10)) [
      | inl feed ↦ absurd (omega (arith, rw feed at e))
      | inr other ↦ rw other (ap (onto_first_line c) (last_line (d ∷ cs) (λ n. cc n) (omega (arith, rw other at e))))
    ]

pub no_text : (xs : List ℕ) → (length xs == 0) ≡ true → text_lines xs ≡ []
no_text [] h = refl
no_text (x ∷ xs) h = absurd (omega (arith, eqb-true (suc (length xs)) 0 h))

pub some_text : (xs : List ℕ) → (length xs == 0) ≡ false → xs ≢ []
some_text [] h e = cc h
some_text (x ∷ xs) h e = cc e

take_whole : (xs : List ℕ) → take (length xs) xs ≡ xs
take_whole [] = refl
take_whole (x ∷ xs) = ap (λ (ys : List ℕ). x ∷ ys) (take_whole xs)

take_none : (k : ℕ) → take {A = ℕ} k [] ≡ []
take_none zero = refl
take_none (suc k) = refl

rest_whole : (n : ℕ) (xs : List ℕ) → take (length xs - n) (drop n xs) ≡ drop n xs
rest_whole zero xs = let e : length xs - 0 ≡ length xs = omega arith in rw e (take_whole xs)
rest_whole (suc n) [] = take_none (0 - suc n)
rest_whole (suc n) (x ∷ xs) = let e : suc (length xs) - suc n ≡ length xs - n = omega arith in rw e (rest_whole n xs)

-- a slice from a place on
pub front_of : (xs : List ℕ) (n : ℕ) → n ≡ prefix_len is_within_line xs → n < length xs
    → text_lines xs ≡ take (n + 1) xs ∷ text_lines (take (length xs - (n + 1)) (drop (n + 1) xs))
front_of xs n e lt = let f : n + 1 ≡ suc n = omega arith in rw (f, rest_whole (suc n) xs) (front_line xs n (sym e) lt)
