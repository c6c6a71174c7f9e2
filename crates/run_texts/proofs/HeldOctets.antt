-- Octets that texts, numbers and names don't have: above all a line feed (10).
use Rattle.std.proofs.Common.{◌≡◌, ℕ, zero, suc, ◌+◌, ◌<◌, ◌≤◌, ◌==◌, ◌/◌, ◌%◌, Bool, true, false, ◌||◌, if◌then◌else◌, All, List, [], ◌∷◌, ◌++◌, map, slice_get, refl, sym, ap, ◌∙◌, arith}
use Rattle.std.specs.Prelude.{nat_lt, decimal, unwrap_or}
use Rattle.std.specs.Fmt.{digits}
use Rattle.std.specs.Fmt.{digits_onto, digit_glyph}
use Rattle.std.proofs.lemmas.Bool.{ne_eqb, false≢true}
use Rattle.layout.specs.NameOctets.{is_name_octet}
use Rattle.layout.specs.Sound.{IsSound, IsSoundStation, IsSoundRepeater, device_names}
use Rattle.layout.specs.declared.lines.RepeaterLine.{RepeaterLine}
use Rattle.layout.specs.declared.lines.StationLine.{StationLine}
use Rattle.layout.specs.declared.lines.Layout.{Layout}

-- the octet c is among these
abbrev pub holds : ℕ → List ℕ → Bool
holds c [] = false
holds c (x ∷ xs) = (x == c) || holds c xs

pub either : (a b : Bool) → a || b ≡ false → (a ≡ false) × (b ≡ false)
either true b e = absurd (false≢true (sym e))
either false b e = (refl, e)

pub neither : (a b : Bool) → a ≡ false → b ≡ false → a || b ≡ false
neither a b one two = rw (one, two) refl

pub holds_append : (c : ℕ) (xs ys : List ℕ) → holds c xs ≡ false → holds c ys ≡ false → holds c (xs ++ ys) ≡ false
holds_append c [] ys one two = two
holds_append c (x ∷ xs) ys one two =
    let parts : ((x == c) ≡ false) × (holds c xs ≡ false) = either (x == c) (holds c xs) one in
    neither (x == c) (holds c (xs ++ ys)) parts.0 (holds_append c xs ys parts.1 two)

-- octets of 48 and more, as digits are
abbrev pub AreHigh : List ℕ → Type 0
AreHigh [] = Unit {0}
AreHigh (x ∷ xs) = (48 ≤ x) × AreHigh xs

high_none : (c : ℕ) (xs : List ℕ) → c < 48 → AreHigh xs → holds c xs ≡ false
high_none c [] low high = refl
high_none c (x ∷ xs) low high = neither (x == c) (holds c xs) (ne_eqb x c (λ same. omega (arith, low, high.0, same))) (high_none c xs low high.1)

glyph_high : (b : Bool) (d : ℕ) → 48 ≤ (if b then 48 + d else (if false then 55 + d else 87 + d))
glyph_high true d = omega arith
glyph_high false d = omega arith

pick_high : (b : Bool) (xs ys : List ℕ) → AreHigh xs → AreHigh ys → AreHigh (if b then xs else ys)
pick_high true xs ys one two = one
pick_high false xs ys one two = two

onto_high : (k n : ℕ) (more : List ℕ) → AreHigh more → AreHigh (digits_onto k 10 false n more)
onto_high zero n more high = high
onto_high (suc k) n more high =
    let next : AreHigh (digit_glyph false (n % 10) ∷ more) = (glyph_high (nat_lt (n % 10) 10) (n % 10), high) in
    pick_high (n / 10 == 0) (digit_glyph false (n % 10) ∷ more) (digits_onto k 10 false (n / 10) (digit_glyph false (n % 10) ∷ more)) next (onto_high k (n / 10) (digit_glyph false (n % 10) ∷ more) next)

-- the digits of a number
pub decimal_high : (n : ℕ) → AreHigh (decimal n)
unfolding digits
decimal_high n = onto_high 64 n [] tt

pub number_lacks : (c n : ℕ) → c < 48 → holds c (decimal n) ≡ false
number_lacks c n low = high_none c (decimal n) low (decimal_high n)

-- a text and a number after it
pub then_number : (text : List ℕ) (n : ℕ) → holds 10 text ≡ false → holds 10 (text ++ decimal n) ≡ false
then_number text n none = holds_append 10 text (decimal n) none (number_lacks 10 n (omega arith))

-- a text, and a number after words
pub then_words : (text words : List ℕ) (n : ℕ) → holds 10 text ≡ false → holds 10 words ≡ false → holds 10 (text ++ words ++ decimal n) ≡ false
then_words text words n none word = then_number (text ++ words) n (holds_append 10 text words none word)

pub no_feed_octet : is_name_octet 10 ≡ false
unfolding is_name_octet
no_feed_octet = refl

pub name_lacks : (c : ℕ) (name : List ℕ) → is_name_octet c ≡ false → All (λ x. is_name_octet x ≡ true) name → holds c name ≡ false
name_lacks c [] apart all = refl
name_lacks c (x ∷ xs) apart all =
    neither (x == c) (holds c xs) (ne_eqb x c (λ same. false≢true (sym apart ∙ ap is_name_octet (sym same) ∙ all zero x (omega arith)))) (name_lacks c xs apart (λ k d l. all (suc k) d (omega (arith, l))))

-- names without the octet c
abbrev EachLacks : ℕ → List (List ℕ) → Type 0
EachLacks c [] = Unit {0}
EachLacks c (n ∷ ns) = (holds c n ≡ false) × EachLacks c ns

stations_lack : (c f n : ℕ) (ss : List StationLine) → is_name_octet c ≡ false → All (IsSoundStation f n) ss → EachLacks c (map (λ s. s.name) ss)
stations_lack c f n [] apart all = tt
stations_lack c f n (s ∷ ss) apart all = (name_lacks c s.name apart (all zero s (omega arith)).name.octets, stations_lack c f n ss apart (λ k d l. all (suc k) d (omega (arith, l))))

repeaters_lack : (c n : ℕ) (rs : List RepeaterLine) → is_name_octet c ≡ false → All (IsSoundRepeater n) rs → EachLacks c (map (λ r. r.name) rs)
repeaters_lack c n [] apart all = tt
repeaters_lack c n (r ∷ rs) apart all = (name_lacks c r.name apart (all zero r (omega arith)).name.octets, repeaters_lack c n rs apart (λ k d l. all (suc k) d (omega (arith, l))))

both_lack : (c : ℕ) (ns ms : List (List ℕ)) → EachLacks c ns → EachLacks c ms → EachLacks c (ns ++ ms)
both_lack c [] ms one two = two
both_lack c (n ∷ ns) ms one two = (one.0, both_lack c ns ms one.1 two)

lacks_at : (c k : ℕ) (ns : List (List ℕ)) → EachLacks c ns → holds c (unwrap_or (slice_get ns k) []) ≡ false
lacks_at c k [] each = refl
lacks_at c zero (n ∷ ns) each = each.0
lacks_at c (suc k) (n ∷ ns) each = lacks_at c k ns each.1

-- the name of a device has no octet that names don't have
pub device_lacks : (c k : ℕ) (layout : Layout) → is_name_octet c ≡ false → IsSound layout → holds c (unwrap_or (slice_get (device_names layout) k) []) ≡ false
device_lacks c k layout apart sound =
    lacks_at c k (device_names layout) (both_lack c (map (λ s. s.name) layout.stations) (map (λ r. r.name) layout.repeaters)
    (stations_lack c _ _ layout.stations apart sound.stations) (repeaters_lack c _ layout.repeaters apart sound.repeaters))
