-- What names and numbers have and don't have: no space (32) in a name, and a digit in a number.
use Rattle.std.proofs.Common.{◌≡◌, ◌≢◌, ℕ, zero, suc, ◌<◌, ◌==◌, ◌/◌, ◌%◌, Bool, true, false, if◌then◌else◌, All, List, [], ◌∷◌, length, refl, arith}
use Rattle.std.specs.Prelude.{decimal}
use Rattle.std.specs.Fmt.{digits}
use Rattle.std.specs.Fmt.{digits_onto, digit_glyph}
use Rattle.std.proofs.lemmas.Bool.{eqb-false}
use Rattle.std.proofs.lemmas.List.Elements.{All-nil, All-cons}
use Rattle.layout.specs.NameOctets.{is_name_octet}
use Rattle.run_texts.proofs.HeldOctets.{either, holds}

-- what isn't held is no octet of these
pub all_other : (c : ℕ) (xs : List ℕ) → holds c xs ≡ false → All (λ x. x ≢ c) xs
all_other c [] none = All-nil (λ x. x ≢ c)
all_other c (x ∷ xs) none =
    let parts : ((x == c) ≡ false) × (holds c xs ≡ false) = either (x == c) (holds c xs) none in
    All-cons (λ x. x ≢ c) x xs (eqb-false x c parts.0) (all_other c xs parts.1)

pick_long : (b : Bool) (xs ys : List ℕ) → 0 < length xs → 0 < length ys → 0 < length (if b then xs else ys)
pick_long true xs ys one two = one
pick_long false xs ys one two = two

onto_long : (k n x : ℕ) (more : List ℕ) → 0 < length (digits_onto k 10 false n (x ∷ more))
onto_long zero n x more = omega arith
onto_long (suc k) n x more =
    pick_long (n / 10 == 0) (digit_glyph false (n % 10) ∷ x ∷ more) (digits_onto k 10 false (n / 10) (digit_glyph false (n % 10) ∷ x ∷ more)) (omega arith) (onto_long k (n / 10) (digit_glyph false (n % 10)) (x ∷ more))

-- a number has a digit
pub decimal_long : (n : ℕ) → 0 < length (decimal n)
unfolding digits
decimal_long n = pick_long (n / 10 == 0) (digit_glyph false (n % 10) ∷ []) (digits_onto 63 10 false (n / 10) (digit_glyph false (n % 10) ∷ [])) (omega arith) (onto_long 63 (n / 10) (digit_glyph false (n % 10)) [])

pub no_space_octet : is_name_octet 32 ≡ false
unfolding is_name_octet
no_space_octet = refl
