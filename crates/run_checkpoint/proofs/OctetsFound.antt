-- The line of octets that was read is the line of what was read.
use Rattle.std.proofs.Common.{◌≡◌, ℕ, ◌+◌, ◌-◌, ◌*◌, ◌/◌, ◌%◌, ◌^◌, ◌<◌, ◌≤◌, List, [], ◌∷◌, ◌++◌, flat_map, refl, sym, ap, ◌∙◌, arith, inl, inr, Some, append_assoc, append-nil}
use Rattle.std.specs.List.{AllByRecursion}
use Rattle.std.specs.Prelude.{codes, nat_le}
use Rattle.std.proofs.lemmas.Bool.{cases_Bool, and_parts, leb-true, lt-ltb, le-ltb}
use Rattle.std.proofs.lemmas.Option.{same_Some}
use Rattle.layout.specs.NameOctets.{is_between}
use Rattle.text_fields.specs.Reading.{after_word}
use Rattle.text_fields.proofs.FoundFields.{bind_some, word_text}
use Rattle.run_checkpoint.specs.LineForms.{hex_octet, hex_octets_on, hex_value, octets_form}
use Rattle.run_checkpoint.specs.LineTexts.{hex_digit, hex_digits, line_of_octets}
use Rattle.run_checkpoint.proofs.Figures.{whole_text}

-- a digit that was read
digit_text : (c n : ℕ) → hex_value c ≡ Some n → (n < 16) × (c ≡ hex_digit n)
unfolding hex_value
digit_text c n h =
    elim (cases_Bool (is_between 48 57 c)) [
      | inl figure ↦
          let b = and_parts (nat_le 48 c) (nat_le c 57) figure in
          let low : 48 ≤ c = leb-true 48 c b.0 in
          let high : c ≤ 57 = leb-true c 57 b.1 in
          let e : c - 48 ≡ n = same_Some _ _ (rw figure at h) in
          let small : n < 10 = omega (arith, e) in
          let back : c ≡ n + 48 = omega (arith, e) in
          (omega (arith, e), rw (lt-ltb n 10 small) back)
      | inr other ↦ elim (cases_Bool (is_between 97 102 c)) [
        | inl letter ↦
            let b = and_parts (nat_le 97 c) (nat_le c 102) letter in
            let low : 97 ≤ c = leb-true 97 c b.0 in
            let high : c ≤ 102 = leb-true c 102 b.1 in
            let e : c - 87 ≡ n = same_Some _ _ (rw (other, letter) at h) in
            let big : 10 ≤ n = omega (arith, e) in
            let back : c ≡ n + 87 = omega (arith, e) in
            (omega (arith, e), rw (le-ltb n 10 big) back)
        | inr none ↦ cc (rw (other, none) at h)
      ]
    ]

octet_text : (high low o : ℕ) → hex_octet high low ≡ Some o → (o < 2 ^ 8) × (high ∷ low ∷ [] ≡ hex_digits o)
unfolding hex_octet
octet_text high low o h =
    let a = bind_some (hex_value high) _ o h in
    let b = bind_some (hex_value low) _ o a.2 in
    let x = digit_text high a.0 a.1 in
    let y = digit_text low b.0 b.1 in
    let e : 16 * a.0 + b.0 ≡ o = same_Some _ _ b.2 in
    let top : o / 16 ≡ a.0 = omega (arith, x.0, y.0, e) in
    let rest : o % 16 ≡ b.0 = omega (arith, x.0, y.0, e) in
    (omega (arith, x.0, y.0, e), rw (top, rest, ← x.1, ← y.1) refl)

-- digits that were read
pub record AreDigitsOf (before digits octets : List ℕ) : Type 0 where
  pub more : List ℕ
  pub all : octets ≡ before ++ more
  pub bytes : AllByRecursion (λ octet. octet < 2 ^ 8) more
  pub text : digits ≡ flat_map hex_digits more ++ codes "\n"

digits_text : (before digits octets : List ℕ) → hex_octets_on before digits ≡ Some octets → AreDigitsOf before digits octets
unfolding hex_octets_on
digits_text before [] octets h = cc h
digits_text before (c ∷ []) octets h =
    let w = whole_text before octets (c ∷ []) h in
    record { more = []; all = sym w.0 ∙ sym (append-nil before); bytes = tt; text = w.1 }
digits_text before (high ∷ low ∷ rest) octets h =
    let b = bind_some (hex_octet high low) _ octets h in
    let o = octet_text high low b.0 b.1 in
    let ih = digits_text (before ++ b.0 ∷ []) rest octets b.2 in
    record {
      more = b.0 ∷ ih.more;
      all = ih.all ∙ append_assoc before (b.0 ∷ []) ih.more;
      bytes = (o.0, ih.bytes);
      text = ap (λ (xs : List ℕ). high ∷ low ∷ xs) ih.text ∙ ap (λ (xs : List ℕ). xs ++ (flat_map hex_digits ih.more ++ codes "\n")) o.1;
    }

pub octets_text : (line octets : List ℕ) → octets_form line ≡ Some octets → AllByRecursion (λ octet. octet < 2 ^ 8) octets × (line ≡ line_of_octets octets)
unfolding octets_form line_of_octets
octets_text line octets h =
    let b = bind_some (after_word (codes "octets ") line) _ octets h in
    let d = digits_text [] b.0 octets b.2 in
    let w = word_text (codes "octets ") line b.0 b.1 in
    rw d.all (d.bytes, w ∙ ap (λ xs. codes "octets " ++ xs) d.text ∙ sym (append_assoc (codes "octets ") (flat_map hex_digits d.more) (codes "\n")))
