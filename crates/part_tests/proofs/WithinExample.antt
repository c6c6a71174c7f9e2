-- An example of how far places are from each other: no two of 10, 30 and 0 are more than 30 half bits apart.
use Rattle.std.proofs.Common.{ℕ, zero, suc, ◌≤◌, List, [], ◌∷◌, arith}
use Rattle.segment_engine.specs.NewLines.{AreWithin}

abbrev three_places : List ℕ
three_places = 10 ∷ 30 ∷ 0 ∷ []

pub within : AreWithin 30 three_places
within zero zero h l = omega arith
within zero (suc zero) h l = omega arith
within zero (suc (suc zero)) h l = omega arith
within (suc zero) zero h l = omega arith
within (suc zero) (suc zero) h l = omega arith
within (suc zero) (suc (suc zero)) h l = omega arith
within (suc (suc zero)) zero h l = omega arith
within (suc (suc zero)) (suc zero) h l = omega arith
within (suc (suc zero)) (suc (suc zero)) h l = omega arith
within (suc (suc (suc p))) r h l = absurd (omega (arith, h))
within p (suc (suc (suc r))) h l = absurd (omega (arith, l))

-- but 30 and 0 are more than 29
pub not_within : ¬ AreWithin 29 three_places
not_within are = let far : 30 ≤ 29 = are 1 2 (omega arith) (omega arith) in absurd (omega (arith, far))
