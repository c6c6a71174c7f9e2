-- What the closures that make a run's parts promise (profile). Parts and windows count from 0.
use Rattle.std.specs.Prelude.{◌≡◌, ◌<◌, ◌+◌, ℕ, Result, IfOk, length}
use Rattle.load_plan.specs.declared.plan.Plan.{Plan}

-- A part can be asked for by each of `count` numbers, and what is made for number i is part `first` + i of the plan,
-- which has made no window, or nothing (profile).
pub record MakesParts {S E : Type 0} (plan_of : S → Plan) (number at : S → ℕ) (plan : Plan) (first count : ℕ)
    (pre : ℕ → Type 0) (post : ℕ → Result S E → Type 0) : Type 0 where
  pub may : (i : ℕ) → i < count → pre i
  pub made : (i : ℕ) (r : Result S E) → post i r
      → IfOk r (λ s. (plan_of s ≡ plan) × (number s ≡ first + i) × (at s ≡ 0))

-- All segments of the plan are made so (profile).
abbrev pub MakesSegments : {S E : Type 0} → (S → Plan) → (S → ℕ) → (S → ℕ) → Plan → (ℕ → Type 0)
    → (ℕ → Result S E → Type 0) → Type 0
MakesSegments plan_of number at plan pre post =
    MakesParts plan_of number at plan 0 (length plan.layout.segments) pre post

-- All repeaters of the plan are made so (profile).
abbrev pub MakesRepeaters : {S E : Type 0} → (S → Plan) → (S → ℕ) → (S → ℕ) → Plan → (ℕ → Type 0)
    → (ℕ → Result S E → Type 0) → Type 0
MakesRepeaters plan_of number at plan pre post =
    MakesParts plan_of number at plan (length plan.layout.segments) (length plan.layout.repeaters) pre post
