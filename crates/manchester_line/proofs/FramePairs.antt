-- Pairs of half bits that are pushed, half by half, and what they leave.
use Rattle.std.proofs.Common.{◌≡◌, ℕ, suc, ◌+◌, ◌*◌, ◌%◌, Bool, true, false, Option, Some, None, List, [], ◌∷◌, length, refl, sym, ap, ap₂, ◌∙◌, arith}
use Rattle.std.specs.Prelude.{◌&&◌, ◌==◌, if◌then◌else◌}
use Rattle.std.proofs.lemmas.Option.{none-some, same_Some}
use Rattle.std.specs.Option.{option_map, is_none}
use Rattle.mac_parameters.specs.Parameters.{half_bits_an_octet}
use Rattle.manchester_line.specs.declared.Sym.{Sym}
use Rattle.manchester_line.specs.Reading.{bit_of_pair, add_bit, bits_of}
use Rattle.manchester_line.specs.Decoding.{Decoding, all_put, all_shifted, octet_kept, put_bit, pushed, shifted, take_bit, take_half, all_pushed}

-- one more bit, where it is known whether it is an octet's last
abbrev put_if : Bool → Decoding → Bool → Decoding
put_if last d b = if last then octet_kept d (shifted d.rest b) else record d { spare = d.spare + 1; rest = shifted d.rest b }

-- what a bit leaves as it is
record Same (d e : Decoding) : Type 0 where
  pub half : e.half ≡ d.half
  pub halves : e.halves ≡ d.halves

put_same : (last : Bool) (d : Decoding) (b : Bool) → Same d (put_if last d b)
put_same true d b = record { half = refl; halves = refl }
put_same false d b = record { half = refl; halves = refl }

taken_same : (found : Bool) (d : Decoding) (b : Bool) → Same d (if found then put_bit d b else record d { found = d.last && b; last = b })
taken_same true d b = put_same (d.spare == 7) d b
taken_same false d b = record { half = refl; halves = refl }

take_same : (d : Decoding) (p : Option Bool) → Same d (take_bit d p)
take_same d None = record { half = refl; halves = refl }
take_same d (Some b) = taken_same d.found d b

no_half : (d : Decoding) → d.half ≡ None → d ≡ record d { half = None }
no_half d h = ap (λ (x : Option Sym). let r : Decoding = record d { half = x } in r) h

-- a pair where no first half is left over
pub pair_pushed : (d : Decoding) (a b : Sym) → d.half ≡ None → pushed (pushed d a) b ≡ take_bit (record d { halves = d.halves + 2 }) (bit_of_pair a b)
pair_pushed d a b h =
    let start = no_half d h in
    let two : d.halves + 1 + 1 ≡ d.halves + 2 = omega arith in
    ap (λ x. pushed (pushed x a) b) start
    ∙ ap (λ (n : ℕ). let r : Decoding = record d { halves = n; half = None } in take_bit r (bit_of_pair a b)) two
    ∙ ap (λ (x : Decoding). let r : Decoding = record x { halves = x.halves + 2 } in take_bit r (bit_of_pair a b)) (sym start)

pub pair_half : (d : Decoding) (p : Option Bool) → d.half ≡ None → (take_bit d p).half ≡ None
pair_half d p h = (take_same d p).half ∙ h

pub even_half : (hs : List Sym) (d : Decoding) → length hs % 2 ≡ 0 → d.half ≡ None → (all_pushed d hs).half ≡ None
even_half [] d e h = h
even_half (a ∷ []) d e h = absurd (omega (arith, e))
even_half (a ∷ b ∷ more) d e h =
    even_half more (pushed (pushed d a) b) (omega (arith, e)) (ap (λ (x : Decoding). x.half) (pair_pushed d a b h) ∙ pair_half (record d { halves = d.halves + 2 }) (bit_of_pair a b) h)

-- a second half leaves no half
second_from : (d : Decoding) (o : Option Sym) (s : Sym) → is_none o ≡ false → (take_half d o s).half ≡ None
second_from d None s h = absurd (cc)
second_from d (Some a) s h = pair_half (record d { half = None }) (bit_of_pair a s) refl

pub second_half : (d : Decoding) (s : Sym) → is_none d.half ≡ false → (pushed d s).half ≡ None
second_half d s h = second_from (record d { halves = d.halves + 1 }) d.half s h

half_taken : (d : Decoding) (o : Option Sym) (s : Sym) → (take_half d o s).halves ≡ d.halves
half_taken d None s = refl
half_taken d (Some a) s = (take_same (record d { half = None }) (bit_of_pair a s)).halves

-- each half bit is counted
pub all_counted : (hs : List Sym) (d : Decoding) → (all_pushed d hs).halves ≡ d.halves + length hs
all_counted [] d = omega arith
all_counted (s ∷ ss) d = omega (arith, all_counted ss (pushed d s), half_taken (record d { halves = d.halves + 1 }) d.half s)

abbrev decoding : ℕ → Bool → Bool → ℕ → List ℕ → ℕ → ℕ → Decoding
decoding n spoiled last count octets spare rest =
    record { halves = n; half = None; spoiled = spoiled; found = true; last = last; count = count; octets = octets; spare = spare; rest = rest }

put_first : (full : Bool) (b : Bool) (more : List Sym) (bits : List Bool) (n : ℕ) (spoiled last : Bool) (count : ℕ) (octets : List ℕ) (spare rest : ℕ)
    → ((c : ℕ) (o : List ℕ) (s r : ℕ) → all_pushed (decoding n spoiled last c o s r) more ≡ all_put (decoding (n + length more) spoiled last c o s r) bits)
    → all_pushed (put_if full (decoding n spoiled last count octets spare rest) b) more ≡ all_put (put_if full (decoding (n + length more) spoiled last count octets spare rest) b) bits
put_first true b more bits n spoiled last count octets spare rest ih = ih _ _ _ _
put_first false b more bits n spoiled last count octets spare rest ih = ih _ _ _ _

pair_first : (p : Option Bool) (q : Option (List Bool)) (more : List Sym) (bits : List Bool) (n : ℕ) (spoiled last : Bool) (count : ℕ) (octets : List ℕ) (spare rest : ℕ)
    → ((bs : List Bool) → q ≡ Some bs → (c : ℕ) (o : List ℕ) (s r : ℕ) → all_pushed (decoding n spoiled last c o s r) more ≡ all_put (decoding (n + length more) spoiled last c o s r) bs)
    → add_bit p q ≡ Some bits
    → all_pushed (take_bit (decoding n spoiled last count octets spare rest) p) more ≡ all_put (decoding (n + length more) spoiled last count octets spare rest) bits
pair_first None None more bits n spoiled last count octets spare rest ih e = absurd (none-some bits e)
pair_first None (Some bs) more bits n spoiled last count octets spare rest ih e = absurd (none-some bits e)
pair_first (Some b) None more bits n spoiled last count octets spare rest ih e = absurd (none-some bits e)
pair_first (Some b) (Some bs) more bits n spoiled last count octets spare rest ih e =
    put_first (spare == 7) b more bs n spoiled last count octets spare rest (ih bs refl)
    ∙ ap (all_put (decoding (n + length more) spoiled last count octets spare rest)) (same_Some (b ∷ bs) bits e)

-- half bits of a frame that are all bits
frame_bits : (hs : List Sym) (bits : List Bool) (n : ℕ) (spoiled last : Bool) (count : ℕ) (octets : List ℕ) (spare rest : ℕ) → bits_of hs ≡ Some bits
    → all_pushed (decoding n spoiled last count octets spare rest) hs ≡ all_put (decoding (n + length hs) spoiled last count octets spare rest) bits
frame_bits [] bits n spoiled last count octets spare rest e =
    let none : n ≡ n + 0 = omega arith in
    ap (λ m. decoding m spoiled last count octets spare rest) none
    ∙ ap (all_put (decoding (n + 0) spoiled last count octets spare rest)) (same_Some [] bits e)
frame_bits (a ∷ []) bits n spoiled last count octets spare rest e = absurd (none-some bits e)
frame_bits (a ∷ b ∷ more) bits n spoiled last count octets spare rest e =
    let on : n + 1 + 1 + length more ≡ n + suc (suc (length more)) = omega arith in
    pair_first (bit_of_pair a b) (bits_of more) more bits (n + 1 + 1) spoiled last count octets spare rest
    (λ bs e' c o s r. frame_bits more bs (n + 1 + 1) spoiled last c o s r e') e
    ∙ ap (λ m. all_put (decoding m spoiled last count octets spare rest) bits) on

bits_first : (p : Option Bool) (q : Option (List Bool)) (n : ℕ) (bits : List Bool) → ((bs : List Bool) → q ≡ Some bs → n ≡ 2 * length bs) → add_bit p q ≡ Some bits → suc (suc n) ≡ 2 * length bits
bits_first None None n bits ih e = absurd (none-some bits e)
bits_first None (Some bs) n bits ih e = absurd (none-some bits e)
bits_first (Some b) None n bits ih e = absurd (none-some bits e)
bits_first (Some b) (Some bs) n bits ih e = omega (arith, ih bs refl, ap length (same_Some (b ∷ bs) bits e))

bits_length : (hs : List Sym) (bits : List Bool) → bits_of hs ≡ Some bits → length hs ≡ 2 * length bits
bits_length [] bits e = omega (arith, ap length (same_Some [] bits e))
bits_length (a ∷ []) bits e = absurd (none-some bits e)
bits_length (a ∷ b ∷ more) bits e = bits_first (bit_of_pair a b) (bits_of more) (length more) bits (λ bs e'. bits_length more bs e') e

same_start : (d : Decoding) → d.half ≡ None → d.found ≡ true → d ≡ decoding d.halves d.spoiled d.last d.count d.octets d.spare d.rest
same_start d h f = ap₂ (λ (x : Option Sym) (y : Bool). let r : Decoding = record d { half = x; found = y } in r) h f

octet_from : (d e : Decoding) (hs : List Sym) (octet : ℕ) (q : Option (List Bool)) → d.half ≡ None → d.found ≡ true → length hs ≡ half_bits_an_octet → bits_of hs ≡ q → Some octet ≡ option_map (all_shifted 0) q
    → ((bits : List Bool) → length bits ≡ 8 → octet ≡ all_shifted 0 bits → e ≡ all_put (record d { halves = d.halves + half_bits_an_octet }) bits) → e ≡ all_pushed d hs
octet_from d e hs octet None h f l is o put = absurd (none-some octet (sym o))
octet_from d e hs octet (Some bits) h f l is o put =
    let start = same_start d h f in
    put bits (omega (arith, l, bits_length hs bits is)) (same_Some octet (all_shifted 0 bits) o)
    ∙ ap (λ (x : Decoding). let r : Decoding = record x { halves = x.halves + half_bits_an_octet } in all_put r bits) start
    ∙ ap (λ n. all_put (decoding (d.halves + n) d.spoiled d.last d.count d.octets d.spare d.rest) bits) (sym l)
    ∙ sym (frame_bits hs bits d.halves d.spoiled d.last d.count d.octets d.spare d.rest is)
    ∙ ap (λ x. all_pushed x hs) (sym start)

-- eight bits of a frame that are put at once
pub octet_pushed : (d e : Decoding) (hs : List Sym) (octet : ℕ) → d.half ≡ None → d.found ≡ true → length hs ≡ half_bits_an_octet → Some octet ≡ option_map (all_shifted 0) (bits_of hs)
    → ((bits : List Bool) → length bits ≡ 8 → octet ≡ all_shifted 0 bits → e ≡ all_put (record d { halves = d.halves + half_bits_an_octet }) bits) → e ≡ all_pushed d hs
octet_pushed d e hs octet h f l o put = octet_from d e hs octet (bits_of hs) h f l refl o put
