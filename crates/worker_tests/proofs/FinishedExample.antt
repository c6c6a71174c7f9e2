-- An example of parts that have made all their windows: of the parts 1, 0 and 2 of a run, of which part 2 stands before
-- its first, 0 and 1 have; that part 3 has can't be, since it isn't there.
use Rattle.std.proofs.Common.{◌≡◌, ℕ, ◌+◌, ◌<◌, ◌≤◌, zero, suc, List, map, [], ◌∷◌, refl, arith}
use Rattle.std.specs.Prelude.{Contains, slice_index_or}
use Rattle.load_plan.specs.declared.plan.Plan.{Plan}
use Rattle.net_parts.specs.Windows.{windows}
use Rattle.worker_gate.specs.FinishedParts.{HaveFinished}

abbrev three_numbers : List ℕ
three_numbers = 1 ∷ 0 ∷ 2 ∷ []

module _ (plan : Plan) where
  -- the window before which the part of a number stands
  abbrev stands_before : ℕ → ℕ
  stands_before zero = windows plan
  stands_before (suc zero) = windows plan
  stands_before (suc (suc n)) = 0

  pub first_two_have : HaveFinished (λ (s : ℕ). plan) (λ s. s) stands_before 0 2 three_numbers
  first_two_have = record { there = there; past = past }
    where
      there : (k : ℕ) → k < 2 → Contains (map (λ (s : ℕ). s) three_numbers) (0 + k)
      there zero within = (1, omega arith, refl)
      there (suc zero) within = (0, omega arith, refl)
      there (suc (suc k)) within = absurd (omega (arith, within))

      past : (k d : ℕ) → k < 3 → 0 ≤ slice_index_or three_numbers k d → slice_index_or three_numbers k d < 2 → stands_before (slice_index_or three_numbers k d) ≡ windows plan
      past zero d within low high = refl
      past (suc zero) d within low high = refl
      past (suc (suc zero)) d within low high = absurd (omega (arith, high))
      past (suc (suc (suc k))) d within low high = absurd (omega (arith, within))

  pub part_3_is_missing : HaveFinished (λ (s : ℕ). plan) (λ s. s) stands_before 0 4 three_numbers → ⊥
  part_3_is_missing all = missing (all.there 3 (omega arith))
    where
      missing : Contains (map (λ (s : ℕ). s) three_numbers) 3 → ⊥
      missing (zero, within, is) = omega (arith, is)
      missing (suc zero, within, is) = omega (arith, is)
      missing (suc (suc zero), within, is) = omega (arith, is)
      missing (suc (suc (suc k)), within, is) = omega (arith, within)
