-- The register as a number, fed an octet at a time.
use Rattle.std.proofs.Common.{◌≡◌, ℕ, zero, suc, ◌+◌, ◌*◌, ◌/◌, ◌%◌, ◌^◌, ◌<◌, Bool, true, false, cond, eqb, List, [], ◌∷◌, ◌++◌, map, length, replicate, refl, sym, ap, ap₂, ◌∙◌, arith, length-append, zero-add}
use Rattle.std.specs.Prelude.{not, bit_xor, get_or, drop}
use Rattle.std.proofs.lemmas.List.{at_drop_more}
use Rattle.std.specs.Fn.{iterate}
use Rattle.std.specs.Int.Bits.{xor_block, xor_assoc, xor_comm, xor_zero_r, xor_shifted}
use Rattle.std.proofs.lemmas.Nat.{div-mul-add, mod-mul-add, div-add-mod', mod_below, div_below, xor_shr}
use Rattle.std.proofs.Math.Nat.{pow-suc}
use Rattle.frame_layout.specs.Division.{xor, plus, generator, low_bits, number_of_bits, dividend, remainder, octet_bits, bits, fcs_of}
use Rattle.frame_layout.specs.Register.{generator_number, turned, turned_all}
use Rattle.frame_layout.proofs.Register.{fed, fed_all, length-fed, length-generator, divided_is}

abbrev bit : Bool → ℕ
bit b = cond b 1 0

number-generator : number_of_bits generator ≡ generator_number
unfolding generator
number-generator = refl

bit-lt : (b : Bool) → bit b < 2
bit-lt true = omega arith
bit-lt false = omega arith

bit-xor : (a b : Bool) → bit (xor a b) ≡ bit_xor (bit a) (bit b)
bit-xor true true = refl
bit-xor true false = refl
bit-xor false true = refl
bit-xor false false = refl

number-push : (rs : List Bool) → number_of_bits (rs ++ false ∷ []) ≡ number_of_bits rs
number-push [] = refl
number-push (r ∷ rs) = ap (λ n. n * 2 + cond r 1 0) (number-push rs)

number-plus : (xs ys : List Bool) → length xs ≡ length ys → number_of_bits (plus xs ys) ≡ bit_xor (number_of_bits xs) (number_of_bits ys)
number-plus [] [] h = refl
number-plus [] (y ∷ ys) h = absurd (omega arith)
number-plus (x ∷ xs) [] h = absurd (omega arith)
number-plus (x ∷ xs) (y ∷ ys) h =
    ap₂ (λ n k. n * 2 + k) (number-plus xs ys (omega arith)) (bit-xor x y)
    ∙ sym (xor_block 1 (number_of_bits xs) (number_of_bits ys) (bit x) (bit y) (bit-lt x) (bit-lt y))

turned_at : (q : ℕ) (x : Bool) → turned (q * 2 + bit x) ≡ cond x (bit_xor q generator_number) q
turned_at q true = ap₂ (λ m d. cond (eqb m 1) (bit_xor d generator_number) d) (mod-mul-add q 2 1 (omega arith)) (div-mul-add q 2 1 (omega arith))
turned_at q false = ap₂ (λ m d. cond (eqb m 1) (bit_xor d generator_number) d) (mod-mul-add q 2 0 (omega arith)) (div-mul-add q 2 0 (omega arith))

with_bit : (q : ℕ) (x b : Bool) → bit_xor (q * 2 + bit x) (bit b) ≡ q * 2 + bit (xor x b)
with_bit q x b =
    ap (bit_xor (q * 2 + bit x)) (let e : bit b ≡ 0 * 2 + bit b = sym (zero-add (bit b)) in e)
    ∙ xor_block 1 q 0 (bit x) (bit b) (bit-lt x) (bit-lt b)
    ∙ ap₂ (λ n k. n * 2 + k) (xor_zero_r q) (sym (bit-xor x b))

number-fed : (r : List Bool) (b : Bool) → length r ≡ 32 → number_of_bits (fed r b) ≡ turned (bit_xor (number_of_bits r) (bit b))
number-fed [] b h = absurd (omega arith)
number-fed (r ∷ rs) b h =
    elim (xor r b) as (λ x. number_of_bits (cond x (plus generator (rs ++ false ∷ [])) (rs ++ false ∷ [])) ≡ cond x (bit_xor (number_of_bits rs) generator_number) (number_of_bits rs)) [
      | true ↦ number-plus generator (rs ++ false ∷ []) (omega (arith, length-generator, length-append rs (false ∷ []))) ∙ ap₂ bit_xor number-generator (number-push rs) ∙ xor_comm generator_number (number_of_bits rs)
      | false ↦ number-push rs
    ]
    ∙ sym (ap turned (with_bit (number_of_bits rs) r b) ∙ turned_at (number_of_bits rs) (xor r b))

pub number-fed_all : (ms r : List Bool) → length r ≡ 32 → number_of_bits (fed_all r ms) ≡ turned_all (number_of_bits r) ms
number-fed_all [] r h = refl
number-fed_all (b ∷ ms) r h = number-fed_all ms (fed r b) (length-fed r b h) ∙ ap (λ n. turned_all n ms) (number-fed r b h)

small : (r : ℕ) → r < 2 → r ≡ bit (eqb r 1)
small zero h = refl
small (suc zero) h = refl
small (suc (suc r)) h = absurd (omega arith)

-- the last bit of a number
split : (x : ℕ) → x ≡ x / 2 * 2 + bit (eqb (x % 2) 1)
split x = sym (div-add-mod' x 2) ∙ ap (λ r. x / 2 * 2 + r) (small (x % 2) (mod_below x 2 (omega arith)))

swapped : (q c : ℕ) (b : Bool) → cond b (bit_xor (bit_xor q c) generator_number) (bit_xor q c) ≡ bit_xor (cond b (bit_xor q generator_number) q) c
swapped q c true = xor_assoc q c generator_number ∙ ap (bit_xor q) (xor_comm c generator_number) ∙ sym (xor_assoc q generator_number c)
swapped q c false = refl

xor-even : (q c : ℕ) (b : Bool) → bit_xor (q * 2 + bit b) (c * 2) ≡ bit_xor q c * 2 + bit b
xor-even q c b =
    ap (bit_xor (q * 2 + bit b)) (let e : c * 2 ≡ c * 2 + 0 = omega arith in e)
    ∙ xor_block 1 q c (bit b) 0 (bit-lt b) (omega arith)
    ∙ ap (λ k. bit_xor q c * 2 + k) (xor_zero_r (bit b))

-- a sum with an even number passes through a step
turned-xor : (x c : ℕ) → turned (bit_xor x (c * 2)) ≡ bit_xor (turned x) c
turned-xor x c =
    let b = eqb (x % 2) 1 in
    let q = x / 2 in
    ap (λ y. turned (bit_xor y (c * 2))) (split x)
    ∙ ap turned (xor-even q c b)
    ∙ turned_at (bit_xor q c) b
    ∙ swapped q c b
    ∙ ap (λ y. bit_xor y c) (sym (ap turned (split x) ∙ turned_at q b))

joined : (o : ℕ) → bit_xor (bit (eqb (o % 2) 1)) (o / 2 * 2) ≡ o
joined o = xor_comm (bit (eqb (o % 2) 1)) (o / 2 * 2) ∙ xor_shifted (o / 2) 1 (bit (eqb (o % 2) 1)) (bit-lt (eqb (o % 2) 1)) ∙ sym (split o)

-- n bits at once
turned_all-low_bits : (n o reg : ℕ) → o < 2 ^ n → turned_all reg (low_bits n o) ≡ iterate turned n (bit_xor reg o)
turned_all-low_bits zero o reg h = let z : o ≡ 0 = omega arith in sym (ap (bit_xor reg) z ∙ xor_zero_r reg)
turned_all-low_bits (suc n) o reg h =
    let b = bit (eqb (o % 2) 1) in
    let below : o < 2 ^ n * 2 = rw pow-suc at h in
    turned_all-low_bits n (o / 2) (turned (bit_xor reg b)) (div_below o 2 (2 ^ n) (omega arith) below)
    ∙ ap (iterate turned n) (sym (turned-xor (bit_xor reg b) (o / 2)) ∙ ap turned (xor_assoc reg b (o / 2 * 2) ∙ ap (bit_xor reg) (joined o)))

-- what lies above n bits passes through n steps
iterate-xor : (n lo hi : ℕ) → iterate turned n (bit_xor lo (hi * 2 ^ n)) ≡ bit_xor (iterate turned n lo) hi
iterate-xor zero lo hi = ap (bit_xor lo) (let e : hi * 1 ≡ hi = omega arith in e)
iterate-xor (suc n) lo hi =
    let e : hi * 2 ^ suc n ≡ hi * 2 ^ n * 2 = rw pow-suc (omega arith) in
    ap (iterate turned n) (ap (λ k. turned (bit_xor lo k)) e ∙ turned-xor lo (hi * 2 ^ n)) ∙ iterate-xor n (turned lo) hi

pub octet_step : (reg o : ℕ) → o < 256 → turned_all reg (low_bits 8 o) ≡ bit_xor (iterate turned 8 (bit_xor reg o % 256)) (reg / 256)
octet_step reg o h =
    let x = bit_xor reg o in
    let high : o / 256 ≡ 0 = omega arith in
    turned_all-low_bits 8 o reg h
    ∙ ap (iterate turned 8) (sym (xor_comm (x % 256) (x / 256 * 256) ∙ xor_shifted (x / 256) 8 (x % 256) (mod_below x 256 (omega arith)) ∙ div-add-mod' x 256))
    ∙ iterate-xor 8 (x % 256) (x / 256)
    ∙ ap (bit_xor (iterate turned 8 (x % 256))) (xor_shr reg o 8 ∙ ap (bit_xor (reg / 256)) high ∙ xor_zero_r (reg / 256))

pub turned_all-append : (xs ys : List Bool) (n : ℕ) → turned_all n (xs ++ ys) ≡ turned_all (turned_all n xs) ys
turned_all-append [] ys n = refl
turned_all-append (x ∷ xs) ys n = turned_all-append xs ys (turned (bit_xor n (cond x 1 0)))

-- one octet on
pub fed_octet : (octets : List ℕ) (i reg o table : ℕ) → i < length octets → o ≡ get_or octets i 0 → o < 256 → table ≡ iterate turned 8 (bit_xor reg o % 256) → turned_all (bit_xor table (reg / 256)) (bits (drop (i + 1) octets)) ≡ turned_all reg (bits (drop i octets))
unfolding octet_bits
fed_octet octets i reg o table h e small_o t =
    sym (at_drop_more (λ xs. turned_all reg (bits xs)) octets i 0 h
    ∙ turned_all-append (octet_bits (get_or octets i 0)) (bits (drop (i + 1) octets)) reg
    ∙ ap (λ n. turned_all n (bits (drop (i + 1) octets))) (ap (λ x. turned_all reg (low_bits 8 x)) (sym e) ∙ octet_step reg o small_o ∙ ap (λ n. bit_xor n (reg / 256)) (sym t)))

number-not : (bs : List Bool) → number_of_bits (map not bs) + number_of_bits bs + 1 ≡ 2 ^ length bs
number-not [] = refl
number-not (true ∷ bs) = rw pow-suc (omega (arith, number-not bs))
number-not (false ∷ bs) = rw pow-suc (omega (arith, number-not bs))

length-fed_all : (ms r : List Bool) → length r ≡ 32 → length (fed_all r ms) ≡ 32
length-fed_all [] r h = h
length-fed_all (b ∷ ms) r h = length-fed_all ms (fed r b) (length-fed r b h)

-- the check sequence is the complement of what the register has in the end
pub fcs_is : (octets : List ℕ) → fcs_of octets + turned_all 4294967295 (bits octets) + 1 ≡ 4294967296
unfolding dividend
fcs_is octets =
    let ones = replicate 32 true in
    let ms = bits octets in
    let last : remainder ms ≡ fed_all ones ms = divided_is ms ones refl in
    let value : number_of_bits (fed_all ones ms) ≡ turned_all 4294967295 ms = number-fed_all ms ones refl in
    ap₂ (λ (r : List Bool) (n : ℕ). number_of_bits (map not r) + n + 1) last (sym value) ∙ number-not (fed_all ones ms) ∙ ap (λ n. 2 ^ n) (length-fed_all ms ones refl)
