-- Parts that have made all their windows, as a run answers them (profile). Parts and windows count from 0.
use Rattle.std.specs.Prelude.{◌≡◌, ◌<◌, ◌≤◌, ◌+◌, ℕ, List, All, Contains, length, map, slice_index_or}
use Rattle.load_plan.specs.declared.plan.Plan.{Plan}
use Rattle.net_parts.specs.Windows.{windows}

-- A part is part u of the plan, and has made all windows of the run (profile).
abbrev pub IsFinished : {S : Type 0} → (S → Plan) → (S → ℕ) → (S → ℕ) → Plan → ℕ → S → Type 0
IsFinished plan_of number at plan u s = (plan_of s ≡ plan) × (number s ≡ u) × (at s ≡ windows plan)

-- So many parts of the plan from number `first` on, each once, in order of their numbers, each of which has made all
-- windows of the run (profile).
pub record AreFinished {S : Type 0} (plan_of : S → Plan) (number at : S → ℕ) (plan : Plan) (first count : ℕ)
    (parts : List S) : Type 0 where
  pub long : length parts ≡ count
  pub each : (k : ℕ) (d : S) → k < count → IsFinished plan_of number at plan (first + k) (slice_index_or parts k d)

-- Each of so many parts from number `first` on is among these, and none of these with one of those numbers lacks a
-- window of the run (profile).
pub record HaveFinished {S : Type 0} (plan_of : S → Plan) (number at : S → ℕ) (first count : ℕ) (parts : List S)
    : Type 0 where
  pub there : (k : ℕ) → k < count → Contains (map number parts) (first + k)
  pub past : All (λ s. first ≤ number s → number s < first + count → at s ≡ windows (plan_of s)) parts
