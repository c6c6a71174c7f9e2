-- The line of octets: what is written is read back, and what is read is the line of what was read.
use Rattle.std.proofs.Common.{◌≡◌, ℕ, ◌+◌, ◌-◌, ◌*◌, ◌/◌, ◌%◌, ◌^◌, ◌<◌, List, [], ◌∷◌, ◌++◌, flat_map, refl, sym, ap, ◌∙◌, arith, inl, inr, Some, append_assoc}
use Rattle.std.specs.List.{AllByRecursion}
use Rattle.std.specs.Prelude.{codes}
use Rattle.std.proofs.lemmas.Bool.{cases_lt, lt-ltb, le-ltb}
use Rattle.std.proofs.lemmas.Bool.Decides.{nat_tests}
use Rattle.std.proofs.lemmas.List.{append-nil}
use Rattle.text_fields.proofs.FoundFields.{bind_is, word_again}
use Rattle.run_checkpoint.specs.LineForms.{hex_octet, hex_octets_on, hex_value, octets_form}
use Rattle.run_checkpoint.specs.LineTexts.{hex_digit, hex_digits, line_of_octets}

-- a digit is read back
digit_again : (n : ℕ) → n < 16 → hex_value (hex_digit n) ≡ Some n
unfolding hex_value
digit_again n lt =
    elim (cases_lt n 10) [
      | inl small ↦
          let back : (n + 48) - 48 ≡ n = omega arith in
          rw (lt-ltb n 10 small) (grind (arith, nat_tests))
      | inr big ↦
          let back : (n + 87) - 87 ≡ n = omega arith in
          rw (le-ltb n 10 big) (grind (arith, nat_tests))
    ]

octet_again : (o : ℕ) → o < 2 ^ 8 → hex_octet (hex_digit (o / 16)) (hex_digit (o % 16)) ≡ Some o
unfolding hex_octet
octet_again o lt =
    let whole : 16 * (o / 16) + o % 16 ≡ o = omega arith in
    rw (digit_again (o / 16) (omega arith), digit_again (o % 16) (omega arith), whole) refl

digits_again : (before octets : List ℕ) → AllByRecursion (λ octet. octet < 2 ^ 8) octets → hex_octets_on before (flat_map hex_digits octets ++ codes "\n") ≡ Some (before ++ octets)
unfolding hex_octets_on
digits_again before [] all = ap Some (sym (append-nil before))
digits_again before (o ∷ os) all =
    rw (octet_again o all.0) (digits_again (before ++ o ∷ []) os all.1 ∙ ap Some (append_assoc before (o ∷ []) os))

pub octets_again : (octets : List ℕ) → AllByRecursion (λ octet. octet < 2 ^ 8) octets → octets_form (line_of_octets octets) ≡ Some octets
unfolding octets_form line_of_octets
octets_again octets all =
    ap octets_form (append_assoc (codes "octets ") (flat_map hex_digits octets) (codes "\n"))
    ∙ bind_is _ (hex_octets_on []) (flat_map hex_digits octets ++ codes "\n") _ (word_again (codes "octets ") (flat_map hex_digits octets ++ codes "\n")) (digits_again [] octets all)
