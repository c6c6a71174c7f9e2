-- The length of a line text, and the half bit at each of its places.
use Rattle.std.proofs.Common.{◌≡◌, ℕ, zero, suc, ◌+◌, ◌-◌, ◌*◌, ◌/◌, ◌%◌, ◌^◌, ◌<◌, ◌≤◌, eqb, List, [], ◌∷◌, ◌++◌, length, get_or, refl, sym, ap, ap₂, ◌∙◌, inl, inr, arith, length-append}
use Rattle.std.proofs.Math.Nat.{div-one}
use Rattle.std.proofs.lemmas.List.{get_or_append_left, get_or-append_right, get_or_past}
use Rattle.std.proofs.lemmas.List.FromFn.{length-map-range_with_len, get_or-map-range_with_len}
use Rattle.std.proofs.lemmas.Bool.{cases_lt}
use Rattle.std.proofs.lemmas.Nat.{shr-shr}
use Rattle.std.specs.List.{flat_map}
use Rattle.manchester_line.specs.declared.Sym.TheVariants.{Idle}
use Rattle.manchester_line.specs.Line.{half_at, preamble_at, preamble, bit_halves, octet_halves, line}
use Rattle.mac_parameters.specs.Parameters.{preamble_length, half_bits_an_octet}

length_bit_halves : (n x : ℕ) → length (bit_halves n x) ≡ 2 * n
length_bit_halves zero x = refl
length_bit_halves (suc n) x = let ih : length (bit_halves n (x / 2)) ≡ 2 * n = length_bit_halves n (x / 2) in omega (arith, ih)

pub length_octet_halves : (x : ℕ) → length (octet_halves x) ≡ half_bits_an_octet
unfolding octet_halves
length_octet_halves x = length_bit_halves 8 x

pub length_preamble : length preamble ≡ preamble_length
unfolding preamble
length_preamble = length-map-range_with_len preamble_at 0 preamble_length

length_octets : (xs : List ℕ) → length (flat_map octet_halves xs) ≡ half_bits_an_octet * length xs
length_octets [] = refl
length_octets (x ∷ xs) = omega (arith, length-append (octet_halves x) (flat_map octet_halves xs), length_octet_halves x, length_octets xs)

-- the line text of n octets has preamble_length + half_bits_an_octet * n half bits
pub length_line : (octets : List ℕ) → length (line octets) ≡ preamble_length + half_bits_an_octet * length octets
length_line octets = omega (arith, length-append preamble (flat_map octet_halves octets), length_preamble, length_octets octets)

-- half bit k of the n least bits of x
bit_halves_at : (n x k : ℕ) → k < 2 * n → get_or (bit_halves n x) k Idle ≡ half_at (eqb (x / 2 ^ (k / 2) % 2) 1) (eqb (k % 2) 1)
bit_halves_at zero x k h = absurd (omega (arith, h))
bit_halves_at (suc n) x zero h = ap (λ y. half_at (eqb (y % 2) 1) (eqb 0 1)) (sym (div-one x))
bit_halves_at (suc n) x (suc zero) h = ap (λ y. half_at (eqb (y % 2) 1) (eqb 1 1)) (sym (div-one x))
bit_halves_at (suc n) x (suc (suc k)) h =
    let half : suc (suc k) / 2 ≡ 1 + k / 2 = omega arith in
    let odd : suc (suc k) % 2 ≡ k % 2 = omega arith in
    bit_halves_at n (x / 2) k (omega arith)
    ∙ ap (λ y. half_at (eqb (y % 2) 1) (eqb (k % 2) 1)) (shr-shr x 1 (k / 2))
    ∙ ap₂ (λ i j. half_at (eqb (x / 2 ^ i % 2) 1) (eqb j 1)) (sym half) (sym odd)

pub octet_halves_at : (x k : ℕ) → k < half_bits_an_octet → get_or (octet_halves x) k Idle ≡ half_at (eqb (x / 2 ^ (k / 2) % 2) 1) (eqb (k % 2) 1)
unfolding octet_halves
octet_halves_at x k h = bit_halves_at 8 x k (omega arith)

in_first : (x : ℕ) (xs : List ℕ) (i q r p : ℕ) → i < half_bits_an_octet → q ≡ 0 → r ≡ i → p ≡ i % 2 → get_or (octet_halves x ++ flat_map octet_halves xs) i Idle ≡ half_at (eqb (get_or (x ∷ xs) q 0 / 2 ^ (r / 2) % 2) 1) (eqb p 1)
in_first x xs i q r p h eq er ep =
    get_or_append_left (octet_halves x) (flat_map octet_halves xs) Idle i (omega (arith, length_octet_halves x))
    ∙ octet_halves_at x i h
    ∙ ap₂ (λ j k. half_at (eqb (get_or (x ∷ xs) j 0 / 2 ^ (k / 2) % 2) 1) (eqb (i % 2) 1)) (sym eq) (sym er)
    ∙ ap (λ k. half_at (eqb (get_or (x ∷ xs) q 0 / 2 ^ (r / 2) % 2) 1) (eqb k 1)) (sym ep)

in_later : (x : ℕ) (xs : List ℕ) (i q r p s : ℕ) → half_bits_an_octet ≤ i → q ≡ suc s → get_or (flat_map octet_halves xs) (i - half_bits_an_octet) Idle ≡ half_at (eqb (get_or xs s 0 / 2 ^ (r / 2) % 2) 1) (eqb p 1) →
    get_or (octet_halves x ++ flat_map octet_halves xs) i Idle ≡ half_at (eqb (get_or (x ∷ xs) q 0 / 2 ^ (r / 2) % 2) 1) (eqb p 1)
in_later x xs i q r p s h eq ih =
    get_or-append_right (octet_halves x) (flat_map octet_halves xs) half_bits_an_octet i Idle (length_octet_halves x) h
    ∙ ih
    ∙ ap (λ j. half_at (eqb (get_or (x ∷ xs) j 0 / 2 ^ (r / 2) % 2) 1) (eqb p 1)) (sym eq)

-- half bit i of the octets' half bits
octets_at : (xs : List ℕ) (i : ℕ) → i < half_bits_an_octet * length xs → get_or (flat_map octet_halves xs) i Idle ≡ half_at (eqb (get_or xs (i / half_bits_an_octet) 0 / 2 ^ (i % half_bits_an_octet / 2) % 2) 1) (eqb (i % 2) 1)
octets_at [] i h = absurd (omega (arith, h))
octets_at (x ∷ xs) i h =
    elim (cases_lt i half_bits_an_octet) [
      | inl low ↦ in_first x xs i (i / half_bits_an_octet) (i % half_bits_an_octet) (i % 2) low (omega arith) (omega arith) refl
      | inr high ↦
          let ih : get_or (flat_map octet_halves xs) (i - half_bits_an_octet) Idle ≡ half_at (eqb (get_or xs ((i - half_bits_an_octet) / half_bits_an_octet) 0 / 2 ^ ((i - half_bits_an_octet) % half_bits_an_octet / 2) % 2) 1) (eqb ((i - half_bits_an_octet) % 2) 1) = octets_at xs (i - half_bits_an_octet) (omega arith) in
          let er : (i - half_bits_an_octet) % half_bits_an_octet ≡ i % half_bits_an_octet = omega arith in
          let ep : (i - half_bits_an_octet) % 2 ≡ i % 2 = omega arith in
          in_later x xs i (i / half_bits_an_octet) (i % half_bits_an_octet) (i % 2) ((i - half_bits_an_octet) / half_bits_an_octet) high (omega arith)
          (ih ∙ ap₂ (λ j k. half_at (eqb (get_or xs ((i - half_bits_an_octet) / half_bits_an_octet) 0 / 2 ^ (j / 2) % 2) 1) (eqb k 1)) er ep)
    ]

-- half bit i of the line text
pub line_at_preamble : (octets : List ℕ) (i : ℕ) → i < preamble_length → get_or (line octets) i Idle ≡ preamble_at i
unfolding preamble
line_at_preamble octets i h =
    get_or_append_left preamble (flat_map octet_halves octets) Idle i (omega (arith, length_preamble))
    ∙ get_or-map-range_with_len preamble_at 0 preamble_length i i Idle h (omega arith)

pub line_at_octet : (octets : List ℕ) (i j : ℕ) → preamble_length ≤ i → i ≡ preamble_length + j → j < half_bits_an_octet * length octets → get_or (line octets) i Idle ≡ half_at (eqb (get_or octets (j / half_bits_an_octet) 0 / 2 ^ (j % half_bits_an_octet / 2) % 2) 1) (eqb (j % 2) 1)
line_at_octet octets i j h e few =
    let k : i - preamble_length ≡ j = omega arith in
    get_or-append_right preamble (flat_map octet_halves octets) preamble_length i Idle length_preamble h
    ∙ ap (λ n. get_or (flat_map octet_halves octets) n Idle) k
    ∙ octets_at octets j few

pub line_past : (octets : List ℕ) (i : ℕ) → preamble_length + half_bits_an_octet * length octets ≤ i → get_or (line octets) i Idle ≡ Idle
line_past octets i h = get_or_past (line octets) i Idle (omega (arith, length_line octets))
