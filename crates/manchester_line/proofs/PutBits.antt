-- Bits of a frame that are put one by one leave what eight of them leave at once, wherever an octet begins.
use Rattle.std.proofs.Common.{◌≡◌, ℕ, zero, suc, ◌+◌, ◌-◌, ◌*◌, ◌/◌, ◌%◌, ◌^◌, ◌<◌, ◌≤◌, Bool, true, false, List, [], ◌∷◌, ◌++◌, length, take, drop, refl, sym, subst, ap, ap₂, ◌∙◌, arith, pow-suc, length-drop, length-take-le, take-append-drop}
use Rattle.std.proofs.lemmas.Nat.{div_below, div-mul-add, pow-add, pow_pos, shl-shr, shr-shr}
use Rattle.std.proofs.Math.Nat.{add-mul-div_right}
use Rattle.manchester_line.specs.declared.decoder.TheConstants.{KEPT_OCTETS}
use Rattle.manchester_line.specs.Reading.{bit_value}
use Rattle.manchester_line.specs.Decoding.{Decoding, all_put, all_shifted, octet_kept, put_bit, shifted}
use Rattle.manchester_line.proofs.Packed.{put_few, put_full}

all_put-append : (xs ys : List Bool) (d : Decoding) → all_put d (xs ++ ys) ≡ all_put (all_put d xs) ys
all_put-append [] ys d = refl
all_put-append (x ∷ xs) ys d = all_put-append xs ys (put_bit d x)

-- fewer bits than an octet lacks
put_some : (bits : List Bool) (d : Decoding) → d.spare + length bits < 8 → all_put d bits ≡ record d { spare = d.spare + length bits; rest = all_shifted d.rest bits }
put_some [] d h =
    let none : d.spare ≡ d.spare + 0 = omega arith in
    ap (λ (k : ℕ). let r : Decoding = record d { spare = k } in r) none
put_some (b ∷ bs) d h =
    let on : d.spare + 1 + length bs ≡ d.spare + suc (length bs) = omega arith in
    ap (λ e. all_put e bs) (sym (put_few d _ b (omega arith) refl))
    ∙ put_some bs (record d { spare = d.spare + 1; rest = shifted d.rest b }) (omega arith)
    ∙ ap (λ (k : ℕ). let r : Decoding = record d { spare = k; rest = all_shifted (shifted d.rest b) bs } in r) on

-- as many bits as an octet lacks
put_rest : (bits : List Bool) (d : Decoding) → d.spare ≤ 7 → d.spare + length bits ≡ 8 → all_put d bits ≡ octet_kept d (all_shifted d.rest bits)
put_rest [] d s h = absurd (omega arith)
put_rest (b ∷ []) d s h = sym (put_full d _ b (omega arith) refl)
put_rest (b ∷ c ∷ bs) d s h =
    ap (λ e. all_put e (c ∷ bs)) (sym (put_few d _ b (omega arith) refl))
    ∙ put_rest (c ∷ bs) (record d { spare = d.spare + 1; rest = shifted d.rest b }) (omega arith) (omega arith)

-- eight bits
put_eight : (bits : List Bool) (d : Decoding) → d.spare ≤ 7 → length bits ≡ 8
    → all_put d bits ≡ record d { count = d.count + 1; octets = take KEPT_OCTETS (d.octets ++ all_shifted d.rest (take (8 - d.spare) bits) ∷ []); rest = all_shifted 0 (drop (8 - d.spare) bits) }
put_eight bits d s h =
    let k = 8 - d.spare in
    let first : length (take k bits) ≡ k = length-take-le k bits (omega arith) in
    let last : length (drop k bits) ≡ d.spare = omega (arith, length-drop k bits) in
    let kept = octet_kept d (all_shifted d.rest (take k bits)) in
    ap (all_put d) (sym (take-append-drop k bits))
    ∙ all_put-append (take k bits) (drop k bits) d
    ∙ ap (λ e. all_put e (drop k bits)) (put_rest (take k bits) d s (omega (arith, first)))
    ∙ put_some (drop k bits) kept (omega (arith, last))
    ∙ (let spare : 0 + length (drop k bits) ≡ d.spare = omega (arith, last) in ap (λ (n : ℕ). let r : Decoding = record kept { spare = n; rest = all_shifted 0 (drop k bits) } in r) spare)

-- eight bits at once
pub put_at_once : (bits : List Bool) (d : Decoding) (octet rest : ℕ) (octets : List ℕ) → d.spare ≤ 7 → length bits ≡ 8
    → octet ≡ all_shifted d.rest (take (8 - d.spare) bits) → rest ≡ all_shifted 0 (drop (8 - d.spare) bits) → octets ≡ take KEPT_OCTETS (d.octets ++ octet ∷ [])
    → record d { count = d.count + 1; octets = octets; rest = rest } ≡ all_put d bits
put_at_once bits d octet rest octets s l first last kept =
    ap₂ (λ (o : List ℕ) (r : ℕ). let x : Decoding = record d { count = d.count + 1; octets = o; rest = r } in x) (kept ∙ ap (λ w. take KEPT_OCTETS (d.octets ++ w ∷ [])) first) last
    ∙ sym (put_eight bits d s l)

-- the number whose bits are these, the least first
abbrev number : List Bool → ℕ
number [] = 0
number (b ∷ bs) = bit_value b + 2 * number bs

shifted_number : (bits : List Bool) (rest : ℕ) → all_shifted rest bits ≡ (rest + 256 * number bits) / 2 ^ length bits
shifted_number [] rest = omega arith
shifted_number (b ∷ bs) rest =
    let x = rest + 256 * (bit_value b + 2 * number bs) in
    let half : shifted rest b + 256 * number bs ≡ x / 2 = omega arith in
    let on : 1 + length bs ≡ suc (length bs) = omega arith in
    shifted_number bs (shifted rest b)
    ∙ ap (λ y. y / 2 ^ length bs) half
    ∙ shr-shr x 1 (length bs)
    ∙ ap (λ n. x / 2 ^ n) on

one_or_none : (b : Bool) → bit_value b < 2
one_or_none true = omega arith
one_or_none false = omega arith

number_below : (bits : List Bool) → number bits < 2 ^ length bits
number_below [] = omega arith
number_below (b ∷ bs) = omega (arith, number_below bs, one_or_none b, pow-suc 2 (length bs))

number_split : (k : ℕ) (bits : List Bool) → number bits ≡ number (take k bits) + 2 ^ k * number (drop k bits)
number_split zero bits = omega arith
number_split (suc k) [] = omega arith
number_split (suc k) (b ∷ bs) =
    omega (arith, number_split k bs, ap (λ p. p * number (drop k bs)) (pow-suc 2 k))

-- the number of eight bits
eight_bits : (k : ℕ) (bits : List Bool) (octet : ℕ) → length bits ≡ 8 → octet ≡ all_shifted 0 bits → octet ≡ number (take k bits) + 2 ^ k * number (drop k bits)
eight_bits k bits octet l is =
    let whole : (0 + 256 * number bits) / 2 ^ 8 ≡ number bits = omega arith in
    is ∙ shifted_number bits 0 ∙ ap (λ n. (0 + 256 * number bits) / 2 ^ n) l ∙ whole ∙ number_split k bits

-- the first of eight bits fill an octet
pub filled_is : (bits : List Bool) (spare rest octet : ℕ) → spare ≤ 7 → rest < 256 → length bits ≡ 8 → octet ≡ all_shifted 0 bits
    → (octet * 256 + rest) / 2 ^ (8 - spare) % 256 ≡ all_shifted rest (take (8 - spare) bits)
filled_is bits spare rest octet s r l is =
    let k = 8 - spare in
    let p = 2 ^ k in
    let t = number (take k bits) in
    let d = number (drop k bits) in
    let long : length (take k bits) ≡ k = length-take-le k bits (omega arith) in
    let small : t < p = subst (λ n. t < 2 ^ n) long (number_below (take k bits)) in
    let split : octet ≡ t + p * d = eight_bits k bits octet l is in
    let all : octet * 256 + rest ≡ (rest + 256 * t) + (256 * d) * p = omega (arith, ap (λ n. n * 256) split) in
    let below : (rest + 256 * t) / p < 256 = div_below (rest + 256 * t) p 256 (pow_pos k) (omega arith) in
    let kept : ((rest + 256 * t) / p + 256 * d) % 256 ≡ (rest + 256 * t) / p = omega arith in
    ap (λ x. x / p % 256) all
    ∙ ap (λ x. x % 256) (add-mul-div_right (rest + 256 * t) (256 * d) (pow_pos k))
    ∙ kept
    ∙ ap (λ n. (rest + 256 * t) / 2 ^ n) (sym long)
    ∙ sym (shifted_number (take k bits) rest)

-- the last of eight bits are left over
pub left_over_is : (bits : List Bool) (spare octet : ℕ) → spare ≤ 7 → octet < 256 → length bits ≡ 8 → octet ≡ all_shifted 0 bits
    → octet / 2 ^ (8 - spare) * 2 ^ (8 - spare) ≡ all_shifted 0 (drop (8 - spare) bits)
left_over_is bits spare octet s o l is =
    let k = 8 - spare in
    let p = 2 ^ k in
    let t = number (take k bits) in
    let d = number (drop k bits) in
    let long : length (take k bits) ≡ k = length-take-le k bits (omega arith) in
    let last : length (drop k bits) ≡ spare = omega (arith, length-drop k bits) in
    let small : t < p = subst (λ n. t < 2 ^ n) long (number_below (take k bits)) in
    let split : octet ≡ d * p + t = omega (arith, eight_bits k bits octet l is) in
    let eight : k + spare ≡ 8 = omega arith in
    let all : 0 + 256 * d ≡ d * p * 2 ^ spare = ap (λ n. 0 + 2 ^ n * d) (sym eight) ∙ omega (arith, ap (λ n. n * d) (pow-add 2 k spare)) in
    ap (λ x. x / p * p) split
    ∙ ap (λ x. x * p) (div-mul-add d p t small)
    ∙ sym (shl-shr (d * p) spare)
    ∙ ap (λ x. x / 2 ^ spare) (sym all)
    ∙ ap (λ n. (0 + 256 * d) / 2 ^ n) (sym last)
    ∙ sym (shifted_number (drop k bits) 0)
