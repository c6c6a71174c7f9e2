-- The octets that the last digits spell.
use Rattle.std.proofs.Common.{◌≡◌, ◌≤◌, ℕ, ◌*◌, ◌/◌, List, [], ◌∷◌, length, drop, refl, arith}
use Rattle.std.proofs.lemmas.List.{length-drop}
use Rattle.layout_file.specs.TextValues.{octets_of_digits}

short-octets : (s : List ℕ) → length s ≤ 1 → octets_of_digits s ≡ []
short-octets [] h = refl
short-octets (c ∷ []) h = refl
short-octets (c ∷ d ∷ s) h = absurd (omega (arith, h))

-- one digit alone spells nothing
pub octets_of-drop_all : (s : List ℕ) (i : ℕ) → length s / 2 ≤ i → octets_of_digits (drop (2 * i) s) ≡ []
octets_of-drop_all s i h = short-octets (drop (2 * i) s) (rw length-drop (omega (arith, h)))
