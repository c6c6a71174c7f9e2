-- A line text reads as the octets that it was made of.
use Rattle.std.proofs.Common.{◌≡◌, ℕ, zero, suc, ◌/◌, ◌%◌, ◌<◌, Bool, true, false, Option, Some, List, [], ◌∷◌, ◌++◌, refl, sym, ap, ap₂, ◌∙◌, arith, inl, inr, eq-eqb, All}
use Rattle.std.proofs.lemmas.Bool.{cases_lt, ne_eqb}
use Rattle.std.specs.Prelude.{◌||◌, ◌==◌, nat_le, map}
use Rattle.std.specs.List.{range_with_len, flat_map}
use Rattle.std.specs.Option.{option_map}
use Rattle.manchester_line.specs.declared.Sym.{Sym}
use Rattle.manchester_line.specs.Line.{half_at, preamble, bit_halves, octet_halves, line}
use Rattle.manchester_line.specs.Reading.{bit_of_pair, add_bit, bits_of, after_delimiter, reading, bit_value, octet_of, octets_of_bits, spare_of_bits}

-- these bits and then the others
abbrev before : List Bool → Option (List Bool) → Option (List Bool)
before [] o = o
before (b ∷ bs) o = add_bit (Some b) (before bs o)

before_some : (bs cs : List Bool) → before bs (Some cs) ≡ Some (bs ++ cs)
before_some [] cs = refl
before_some (b ∷ bs) cs = ap (add_bit (Some b)) (before_some bs cs)

abbrev preamble_bits : List Bool
preamble_bits = map (λ k. (k % 2 == 0) || nat_le 62 k) (range_with_len 0 64)

bits_of_preamble : (xs : List Sym) → bits_of (preamble ++ xs) ≡ before preamble_bits (bits_of xs)
unfolding preamble
bits_of_preamble xs = refl

-- the n least bits of x, the least first
abbrev low_bits : ℕ → ℕ → List Bool
low_bits zero x = []
low_bits (suc n) x = (x % 2 == 1) ∷ low_bits n (x / 2)

pair_is : (b : Bool) → bit_of_pair (half_at b false) (half_at b true) ≡ Some b
pair_is true = refl
pair_is false = refl

bits_of_halves : (n x : ℕ) (xs : List Sym) → bits_of (bit_halves n x ++ xs) ≡ before (low_bits n x) (bits_of xs)
bits_of_halves zero x xs = refl
bits_of_halves (suc n) x xs = ap₂ add_bit (pair_is (x % 2 == 1)) (bits_of_halves n (x / 2) xs)

bits_of_octet : (x : ℕ) (xs : List Sym) → bits_of (octet_halves x ++ xs) ≡ before (low_bits 8 x) (bits_of xs)
unfolding octet_halves
bits_of_octet x xs = bits_of_halves 8 x xs

bits_of_octets : (octets : List ℕ) → bits_of (flat_map octet_halves octets) ≡ Some (flat_map (low_bits 8) octets)
bits_of_octets [] = refl
bits_of_octets (x ∷ xs) = bits_of_octet x (flat_map octet_halves xs) ∙ ap (before (low_bits 8 x)) (bits_of_octets xs) ∙ before_some (low_bits 8 x) (flat_map (low_bits 8) xs)

-- a line text reads as its octets' bits
pub reading_line : (octets : List ℕ) → reading (line octets) ≡ Some (flat_map (low_bits 8) octets)
reading_line octets =
    ap (option_map (after_delimiter false)) (bits_of_preamble (flat_map octet_halves octets))
    ∙ ap (λ o. option_map (after_delimiter false) (before preamble_bits o)) (bits_of_octets octets)

low_is : (y : ℕ) → bit_value (y % 2 == 1) ≡ y % 2
low_is y =
    elim (cases_lt (y % 2) 1) [
      | inl low ↦ let zero_is : 0 ≡ y % 2 = omega (arith, low) in ap bit_value (ne_eqb (y % 2) 1 (λ p. omega (arith, low, p))) ∙ zero_is
      | inr high ↦ let one_is : y % 2 ≡ 1 = omega (arith, high) in ap bit_value (eq-eqb (y % 2) 1 one_is) ∙ sym one_is
    ]

octet_is : (x : ℕ) → x < 256 → octet_of (x % 2 == 1) (x / 2 % 2 == 1) (x / 2 / 2 % 2 == 1) (x / 2 / 2 / 2 % 2 == 1) (x / 2 / 2 / 2 / 2 % 2 == 1) (x / 2 / 2 / 2 / 2 / 2 % 2 == 1) (x / 2 / 2 / 2 / 2 / 2 / 2 % 2 == 1) (x / 2 / 2 / 2 / 2 / 2 / 2 / 2 % 2 == 1) ≡ x
octet_is x h = omega (arith, h, low_is x, low_is (x / 2), low_is (x / 2 / 2), low_is (x / 2 / 2 / 2), low_is (x / 2 / 2 / 2 / 2), low_is (x / 2 / 2 / 2 / 2 / 2), low_is (x / 2 / 2 / 2 / 2 / 2 / 2), low_is (x / 2 / 2 / 2 / 2 / 2 / 2 / 2))

pub octets_back : (octets : List ℕ) → All (λ x. x < 256) octets → octets_of_bits (flat_map (low_bits 8) octets) ≡ octets
octets_back [] h = refl
octets_back (x ∷ xs) h = ap₂ ◌∷◌ (octet_is x (h 0 0 (omega arith))) (octets_back xs (λ k d p. h (suc k) d (omega (arith, p))))

pub no_spare : (octets : List ℕ) → spare_of_bits (flat_map (low_bits 8) octets) ≡ 0
no_spare [] = refl
no_spare (x ∷ xs) = omega (arith, no_spare xs)
