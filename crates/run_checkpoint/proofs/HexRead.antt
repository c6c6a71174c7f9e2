-- Hexadecimal digits, two by two.
use Rattle.std.proofs.Common.{◌≡◌, ℕ, ◌<◌, ◌≤◌, List, [], ◌∷◌, ◌++◌, length, drop, slice_index, Some, None, refl, arith}
use Rattle.run_checkpoint.specs.Fields.{whole_line}
use Rattle.run_checkpoint.specs.LineForms.{hex_octet, hex_octets_on}

-- an octet more
pub hex_more : (before xs : List ℕ) (octet : ℕ) → 2 ≤ length xs → hex_octet (slice_index xs 0) (slice_index xs 1) ≡ Some octet → hex_octets_on before xs ≡ hex_octets_on (before ++ octet ∷ []) (drop 2 xs)
unfolding hex_octets_on
hex_more before [] octet le h = absurd (omega arith)
hex_more before (x ∷ []) octet le h = absurd (omega arith)
hex_more before (x ∷ y ∷ ys) octet le h = rw h refl

-- two octets that are no digits
pub hex_none : (before xs : List ℕ) → 2 ≤ length xs → hex_octet (slice_index xs 0) (slice_index xs 1) ≡ None → hex_octets_on before xs ≡ None
unfolding hex_octets_on
hex_none before [] le h = absurd (omega arith)
hex_none before (x ∷ []) le h = absurd (omega arith)
hex_none before (x ∷ y ∷ ys) le h = rw h refl

-- the end of the line, or less
pub hex_last : (before xs : List ℕ) → length xs < 2 → hex_octets_on before xs ≡ whole_line before xs
unfolding hex_octets_on
hex_last before [] lt = refl
hex_last before (x ∷ []) lt = refl
hex_last before (x ∷ y ∷ ys) lt = absurd (omega arith)
