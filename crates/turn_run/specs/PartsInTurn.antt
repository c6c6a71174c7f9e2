-- Parts of one kind, in order of their numbers, at a window or in its midst (profile). Parts and windows count from
-- 0.
use Rattle.std.specs.Prelude.{◌≡◌, ◌<◌, ◌≤◌, ◌+◌, ℕ, List, length, slice_index_or}
use Rattle.load_plan.specs.declared.plan.Plan.{Plan}

-- A part is part u of the plan, and window w is its present one (profile).
abbrev pub IsAtWindow : {S : Type 0} → (S → Plan) → (S → ℕ) → (S → ℕ) → Plan → ℕ → ℕ → S → Type 0
IsAtWindow plan_of number at plan u w s = (plan_of s ≡ plan) × (number s ≡ u) × (at s ≡ w)

-- So many parts of the plan from number `first` on, in order of their numbers; window w is the present one of each
-- (profile).
pub record AreAtWindow {S : Type 0} (plan_of : S → Plan) (number at : S → ℕ) (plan : Plan) (first count w : ℕ)
    (parts : List S) : Type 0 where
  pub long : length parts ≡ count
  pub each : (k : ℕ) (d : S) → k < count → IsAtWindow plan_of number at plan (first + k) w (slice_index_or parts k d)

-- One part is the other, so many windows later (profile).
abbrev pub IsLater : {S : Type 0} → (S → Plan) → (S → ℕ) → (S → ℕ) → ℕ → S → S → Type 0
IsLater plan_of number at n s s' = (plan_of s' ≡ plan_of s) × (number s' ≡ number s) × (at s' ≡ at s + n)

-- The same where the first `done` of them have made that window (profile).
pub record AreBetween {S : Type 0} (plan_of : S → Plan) (number at : S → ℕ) (plan : Plan) (first count w done : ℕ)
    (parts : List S) : Type 0 where
  pub long : length parts ≡ count
  pub made : (k : ℕ) (d : S) → k < done → k < count →
      IsAtWindow plan_of number at plan (first + k) (w + 1) (slice_index_or parts k d)
  pub waiting : (k : ℕ) (d : S) → done ≤ k → k < count →
      IsAtWindow plan_of number at plan (first + k) w (slice_index_or parts k d)
