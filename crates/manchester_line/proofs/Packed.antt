-- A decoder keeps the octets of the bits that a reader with room for all of them keeps.
use Rattle.manchester_line.specs.declared.decoder.TheConstants.{KEPT_OCTETS}
use Rattle.std.proofs.Common.{◌≡◌, ℕ, zero, suc, ◌+◌, ◌%◌, ◌<◌, Bool, true, false, Option, Some, None, List, [], ◌∷◌, ◌++◌, length, take, refl, sym, ap, ◌∙◌, arith, inl, inr, length-append, eq-eqb}
use Rattle.std.proofs.lemmas.Bool.{ne_eqb, cases_lt}
use Rattle.std.specs.Prelude.{if◌then◌else◌}
use Rattle.manchester_line.specs.declared.Sym.{Sym}
use Rattle.manchester_line.specs.Reading.{bit_of_pair, octet_of, octets_of_bits, spare_of_bits}
use Rattle.manchester_line.specs.Decoding.{Decoding, new_decoding, all_shifted, shifted, put_bit, take_bit, pushed, all_pushed}
use Rattle.manchester_line.proofs.Reader.{Reader, new_reader, read_bit, read, all_read}

-- the bits after the whole octets, as a decoder keeps them
abbrev rest_of_bits : List Bool → ℕ
rest_of_bits (a ∷ b ∷ c ∷ d ∷ e ∷ f ∷ g ∷ h ∷ rest) = rest_of_bits rest
rest_of_bits bits = all_shifted 0 bits

-- one more bit, after 7 spare bits and after fewer
record OneMore (bits : List Bool) (x : Bool) : Type 0 where
  full : length bits % 8 ≡ 7 → octets_of_bits (bits ++ x ∷ []) ≡ octets_of_bits bits ++ shifted (rest_of_bits bits) x ∷ []
  full_rest : length bits % 8 ≡ 7 → rest_of_bits (bits ++ x ∷ []) ≡ 0
  few : length bits % 8 < 7 → octets_of_bits (bits ++ x ∷ []) ≡ octets_of_bits bits
  few_rest : length bits % 8 < 7 → rest_of_bits (bits ++ x ∷ []) ≡ shifted (rest_of_bits bits) x

one_more : (bits : List Bool) (x : Bool) → OneMore bits x
one_more [] x = record { full = λ p. absurd (omega (arith, p)); full_rest = λ p. absurd (omega (arith, p)); few = λ _. refl; few_rest = λ _. refl }
one_more (a ∷ []) x = record { full = λ p. absurd (omega (arith, p)); full_rest = λ p. absurd (omega (arith, p)); few = λ _. refl; few_rest = λ _. refl }
one_more (a ∷ b ∷ []) x = record { full = λ p. absurd (omega (arith, p)); full_rest = λ p. absurd (omega (arith, p)); few = λ _. refl; few_rest = λ _. refl }
one_more (a ∷ b ∷ c ∷ []) x = record { full = λ p. absurd (omega (arith, p)); full_rest = λ p. absurd (omega (arith, p)); few = λ _. refl; few_rest = λ _. refl }
one_more (a ∷ b ∷ c ∷ d ∷ []) x = record { full = λ p. absurd (omega (arith, p)); full_rest = λ p. absurd (omega (arith, p)); few = λ _. refl; few_rest = λ _. refl }
one_more (a ∷ b ∷ c ∷ d ∷ e ∷ []) x = record { full = λ p. absurd (omega (arith, p)); full_rest = λ p. absurd (omega (arith, p)); few = λ _. refl; few_rest = λ _. refl }
one_more (a ∷ b ∷ c ∷ d ∷ e ∷ f ∷ []) x = record { full = λ p. absurd (omega (arith, p)); full_rest = λ p. absurd (omega (arith, p)); few = λ _. refl; few_rest = λ _. refl }
one_more (a ∷ b ∷ c ∷ d ∷ e ∷ f ∷ g ∷ []) x = record { full = λ _. ap (λ n. n ∷ []) (omega arith); full_rest = λ _. refl; few = λ p. absurd (omega (arith, p)); few_rest = λ p. absurd (omega (arith, p)) }
one_more (a ∷ b ∷ c ∷ d ∷ e ∷ f ∷ g ∷ h ∷ rest) x =
    let more = one_more rest x in
    let same : length (a ∷ b ∷ c ∷ d ∷ e ∷ f ∷ g ∷ h ∷ rest) % 8 ≡ length rest % 8 = omega arith in
    record {
      full = λ p. ap (λ xs. octet_of a b c d e f g h ∷ xs) (more.full (sym same ∙ p));
      full_rest = λ p. more.full_rest (sym same ∙ p);
      few = λ p. ap (λ xs. octet_of a b c d e f g h ∷ xs) (more.few (omega (arith, p, same)));
      few_rest = λ p. more.few_rest (omega (arith, p, same));
    }

-- what a decoder keeps of n half bits that read so
abbrev pub packed : ℕ → Reader → Decoding
packed n r = record { halves = n; half = r.half; spoiled = r.spoiled; found = r.found; last = r.last; count = length (octets_of_bits r.bits); octets = take KEPT_OCTETS (octets_of_bits r.bits); spare = spare_of_bits r.bits; rest = rest_of_bits r.bits }

pub put_full : (d e : Decoding) (b : Bool) → d.spare ≡ 7 → e ≡ record d { count = d.count + 1; octets = take KEPT_OCTETS (d.octets ++ shifted d.rest b ∷ []); spare = 0; rest = 0 } → e ≡ put_bit d b
put_full d e b h is = is ∙ ap (λ t. if t then record d { count = d.count + 1; octets = take KEPT_OCTETS (d.octets ++ shifted d.rest b ∷ []); spare = 0; rest = 0 } else record d { spare = d.spare + 1; rest = shifted d.rest b }) (sym (eq-eqb d.spare 7 h))

pub put_few : (d e : Decoding) (b : Bool) → d.spare < 7 → e ≡ record d { spare = d.spare + 1; rest = shifted d.rest b } → e ≡ put_bit d b
put_few d e b h is = is ∙ ap (λ t. if t then record d { count = d.count + 1; octets = take KEPT_OCTETS (d.octets ++ shifted d.rest b ∷ []); spare = 0; rest = 0 } else record d { spare = d.spare + 1; rest = shifted d.rest b }) (sym (ne_eqb d.spare 7 (λ p. omega (arith, h, p))))

-- the fields one by one
same_fields : (n : ℕ) (half : Option Sym) (spoiled found last : Bool) (c c' s s' r r' : ℕ) (o o' : List ℕ) → c ≡ c' → o ≡ o' → s ≡ s' → r ≡ r' →
    ◌≡◌ {A = Decoding} (record { halves = n; half = half; spoiled = spoiled; found = found; last = last; count = c; octets = o; spare = s; rest = r }) (record { halves = n; half = half; spoiled = spoiled; found = found; last = last; count = c'; octets = o'; spare = s'; rest = r' })
same_fields n half spoiled found last c c' s s' r r' o o' ec eo es er = rw (ec, eo, es, er)

-- the first n of the first n and one more
take_again : (n : ℕ) (xs : List ℕ) (x : ℕ) → take n (xs ++ x ∷ []) ≡ take n (take n xs ++ x ∷ [])
take_again zero xs x = refl
take_again (suc n) [] x = refl
take_again (suc n) (y ∷ ys) x = ap (λ zs. y ∷ zs) (take_again n ys x)

abbrev reader : Option Sym → Bool → Bool → Bool → List Bool → Reader
reader half spoiled found last bits = record { half = half; spoiled = spoiled; found = found; last = last; bits = bits }

put_step : (n : ℕ) (half : Option Sym) (spoiled found last : Bool) (bits : List Bool) (b : Bool) → packed n (reader half spoiled found last (bits ++ b ∷ [])) ≡ put_bit (packed n (reader half spoiled found last bits)) b
put_step n half spoiled found last bits b =
    let more = one_more bits b in
    let len : length (bits ++ b ∷ []) ≡ length bits + 1 = length-append bits (b ∷ []) in
    elim (cases_lt (length bits % 8) 7) [
      | inl few ↦ put_few (packed n (reader half spoiled found last bits)) _ b few
          (same_fields n half spoiled found last _ _ _ _ _ _ _ _ (ap length (more.few few)) (ap (take KEPT_OCTETS) (more.few few)) (omega (arith, len, few)) (more.few_rest few))
      | inr high ↦
          let full : length bits % 8 ≡ 7 = omega (arith, high) in
          put_full (packed n (reader half spoiled found last bits)) _ b full
          (same_fields n half spoiled found last _ _ _ _ _ _ _ _
          (ap length (more.full full) ∙ length-append (octets_of_bits bits) (shifted (rest_of_bits bits) b ∷ []))
          (ap (take KEPT_OCTETS) (more.full full) ∙ take_again KEPT_OCTETS (octets_of_bits bits) (shifted (rest_of_bits bits) b))
          (omega (arith, len, full)) (more.full_rest full))
    ]

bit_step : (n : ℕ) (spoiled found last : Bool) (bits : List Bool) (p : Option Bool) → packed n (read_bit (reader None spoiled found last bits) p) ≡ take_bit (packed n (reader None spoiled found last bits)) p
bit_step n spoiled found last bits None = refl
bit_step n spoiled true last bits (Some b) = put_step n None spoiled true last bits b
bit_step n spoiled false last bits (Some b) = refl

read_step : (n : ℕ) (half : Option Sym) (spoiled found last : Bool) (bits : List Bool) (s : Sym) → packed (n + 1) (read (reader half spoiled found last bits) s) ≡ pushed (packed n (reader half spoiled found last bits)) s
read_step n None spoiled found last bits s = refl
read_step n (Some a) spoiled found last bits s = bit_step (n + 1) spoiled found last bits (bit_of_pair a s)

packed_step : (n : ℕ) (r : Reader) (s : Sym) → packed (n + 1) (read r s) ≡ pushed (packed n r) s
packed_step n r s = read_step n r.half r.spoiled r.found r.last r.bits s

-- a decoder keeps this of what it was given
packed_all : (halves : List Sym) (n : ℕ) (r : Reader) → all_pushed (packed n r) halves ≡ packed (n + length halves) (all_read r halves)
packed_all [] n r =
    let none : n ≡ n + 0 = omega arith in
    ap (λ m. packed m r) none
packed_all (s ∷ ss) n r =
    let len : n + 1 + length ss ≡ n + suc (length ss) = omega arith in
    ap (λ d. all_pushed d ss) (sym (packed_step n r s)) ∙ packed_all ss (n + 1) (read r s) ∙ ap (λ m. packed m (all_read (read r s) ss)) len

pub decoding_is : (halves : List Sym) → all_pushed new_decoding halves ≡ packed (length halves) (all_read new_reader halves)
decoding_is halves =
    let from : 0 + length halves ≡ length halves = omega arith in
    packed_all halves 0 new_reader ∙ ap (λ m. packed m (all_read new_reader halves)) from
