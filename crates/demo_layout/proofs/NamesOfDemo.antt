-- The names of demo: a letter and a number.
use Rattle.std.proofs.Common.{◌≡◌, ◌≢◌, ℕ, ◌<◌, ◌≤◌, true, All, List, [], ◌∷◌, decimal, refl, arith}
use Rattle.std.specs.Str.Parse.{AllDigits}
use Rattle.std.proofs.lemmas.Bool.{le-leb, lt-leb}
use Rattle.std.proofs.lemmas.Fmt.{decimal_injective, decimal_is_IsNumeral, length-decimal-le}
use Rattle.std.proofs.lemmas.List.Elements.{All-nil, All-cons}
use Rattle.std.proofs.lemmas.Str.Parse.{digit_from_value}
use Rattle.layout.specs.NameOctets.{is_name_octet}
use Rattle.layout.specs.Sound.{IsName}

letter_passes : (c : ℕ) → 97 ≤ c → c ≤ 122 → is_name_octet c ≡ true
unfolding is_name_octet
letter_passes c low high = rw (le-leb 97 c low, le-leb c 122 high) refl

digit_passes : (c : ℕ) → 48 ≤ c → c ≤ 57 → is_name_octet c ≡ true
unfolding is_name_octet
digit_passes c low high = rw (lt-leb 97 c (omega arith), lt-leb 65 c (omega arith), le-leb 48 c low, le-leb c 57 high) refl

digits_pass : (ds : List ℕ) → AllDigits 10 ds → All (λ c. is_name_octet c ≡ true) ds
digits_pass [] h = All-nil (λ c. is_name_octet c ≡ true)
digits_pass (c ∷ cs) h =
    let range = digit_from_value c h.0 in
    All-cons (λ x. is_name_octet x ≡ true) c cs (digit_passes c range.0 range.1) (digits_pass cs h.1)

-- a letter and a number are a name
pub name_with : (letter n : ℕ) → 97 ≤ letter → letter ≤ 122 → n < 1000 → IsName (letter ∷ decimal n)
name_with letter n first last low = record {
  least = omega arith;
  most = omega (arith, length-decimal-le 3 n (omega arith) (omega arith) (omega arith));
  octets = All-cons (λ x. is_name_octet x ≡ true) letter (decimal n) (letter_passes letter first last) (digits_pass (decimal n) (decimal_is_IsNumeral n (omega arith)).0.1);
}

-- and another number is another name
pub names_differ : (letter j k : ℕ) → j < k → k < 1000 → (letter ∷ decimal j) ≢ (letter ∷ decimal k)
names_differ letter j k less low e =
    let rest : decimal j ≡ decimal k = cc e in
    absurd (omega (arith, decimal_injective j k (omega arith) (omega arith) rest))

-- and so is another letter
pub letters_differ : (a b : ℕ) (xs ys : List ℕ) → a ≢ b → (a ∷ xs) ≢ (b ∷ ys)
letters_differ a b xs ys other e = let same : a ≡ b = cc e in other same
