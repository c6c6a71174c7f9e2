-- Texts in which no octet means something in XML.
use Rattle.std.proofs.Common.{◌≡◌, ℕ, zero, suc, ◌+◌, ◌/◌, ◌%◌, ◌<◌, ◌==◌, not, Bool, true, false, cond, List, [], ◌∷◌, ◌++◌, refl, ap, ◌∙◌, arith}
use Rattle.std.specs.List.{AllByRecursion}
use Rattle.std.specs.Prelude.{decimal, nat_lt}
use Rattle.std.specs.Fmt.{digits, digits_onto, digit_glyph}
use Rattle.std.proofs.lemmas.List.Folds.{list_all-append}
use Rattle.std.proofs.lemmas.List.Elements.{recursion_from_All}
use Rattle.std.proofs.lemmas.Bool.{lt-ltb, ne_eqb}
use Rattle.layout.specs.NameOctets.{is_name_octet}
use Rattle.layout.specs.Sound.{IsName}
use Rattle.run_picture.specs.Markup.{is_markup, is_plain}

pub plain_append : (a b : List ℕ) → is_plain a ≡ true → is_plain b ≡ true → is_plain (a ++ b) ≡ true
plain_append a b ha hb = list_all-append (λ c. not (is_markup c)) a b ∙ cc (ha, hb)

apart : (c : ℕ) → (c ≡ 60 → ⊥) → (c ≡ 62 → ⊥) → (c ≡ 38 → ⊥) → (c ≡ 39 → ⊥) → (c ≡ 34 → ⊥) → not (is_markup c) ≡ true
apart c h1 h2 h3 h4 h5 =
    let e1 : (c == 60) ≡ false = ne_eqb c 60 h1 in
    let e2 : (c == 62) ≡ false = ne_eqb c 62 h2 in
    let e3 : (c == 38) ≡ false = ne_eqb c 38 h3 in
    let e4 : (c == 39) ≡ false = ne_eqb c 39 h4 in
    let e5 : (c == 34) ≡ false = ne_eqb c 34 h5 in
    rw (e1, e2, e3, e4, e5) refl

digit_plain : (d : ℕ) → d < 10 → not (is_markup (48 + d)) ≡ true
digit_plain d h = apart (48 + d) (λ e. omega arith) (λ e. omega arith) (λ e. omega arith) (λ e. omega arith) (λ e. omega arith)

glyph_plain : (n : ℕ) (acc : List ℕ) → is_plain acc ≡ true → is_plain (digit_glyph false (n % 10) ∷ acc) ≡ true
glyph_plain n acc h =
    let small : n % 10 < 10 = omega arith in
    let less : nat_lt (n % 10) 10 ≡ true = lt-ltb (n % 10) 10 small in
    let plain : not (is_markup (48 + n % 10)) ≡ true = digit_plain (n % 10) small in
    rw less (cc (plain, h))

one_digit : (k n : ℕ) (acc : List ℕ) (b : Bool) → is_plain (digit_glyph false (n % 10) ∷ acc) ≡ true
    → is_plain (digits_onto k 10 false (n / 10) (digit_glyph false (n % 10) ∷ acc)) ≡ true
    → is_plain (cond b (digit_glyph false (n % 10) ∷ acc) (digits_onto k 10 false (n / 10) (digit_glyph false (n % 10) ∷ acc))) ≡ true
one_digit k n acc true h more = h
one_digit k n acc false h more = more

digits_plain : (k n : ℕ) (acc : List ℕ) → is_plain acc ≡ true → is_plain (digits_onto k 10 false n acc) ≡ true
digits_plain zero n acc h = h
digits_plain (suc k) n acc h = one_digit k n acc (n / 10 == 0) (glyph_plain n acc h) (digits_plain k (n / 10) (digit_glyph false (n % 10) ∷ acc) (glyph_plain n acc h))

pub decimal_plain : (n : ℕ) → is_plain (decimal n) ≡ true
unfolding digits
decimal_plain n = digits_plain 64 n [] refl

none_of_name : (c d : ℕ) → is_name_octet c ≡ true → is_name_octet d ≡ false → c ≡ d → ⊥
none_of_name c d h k e = let same : is_name_octet c ≡ is_name_octet d = ap is_name_octet e in cc

name_octet_plain : (c : ℕ) → is_name_octet c ≡ true → not (is_markup c) ≡ true
unfolding is_name_octet
name_octet_plain c h = apart c (none_of_name c 60 h refl) (none_of_name c 62 h refl) (none_of_name c 38 h refl) (none_of_name c 39 h refl) (none_of_name c 34 h refl)

octets_plain : (s : List ℕ) → AllByRecursion (λ c. is_name_octet c ≡ true) s → is_plain s ≡ true
octets_plain [] h = refl
octets_plain (c ∷ s) h = cc (name_octet_plain c h.0, octets_plain s h.1)

pub name_plain : (s : List ℕ) → IsName s → is_plain s ≡ true
name_plain s h = octets_plain s (recursion_from_All (λ c. is_name_octet c ≡ true) s h.octets)
