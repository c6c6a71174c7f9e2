-- Where a run is stopped so that it can go on later (profile). Half bits count from 0.
use Rattle.std.specs.Prelude.{ℕ, ◌<◌, ◌≤◌}
use Rattle.load_plan.specs.declared.plan.Plan.{Plan}
use Rattle.quiet_state.specs.Quiet.{IsQuiet}

-- Half bit t is the first quiet one of the run at or after half bit `from`.
pub record IsFirstQuiet (plan : Plan) (from t : ℕ) : Type 0 where
  pub quiet : IsQuiet plan t
  pub reached : from ≤ t
  pub first : (u : ℕ) → from ≤ u → u < t → IsQuiet plan u → ⊥

-- No half bit of the run at or after half bit `from` is quiet.
abbrev pub HasNoQuiet : Plan → ℕ → Type 0
HasNoQuiet plan from = (t : ℕ) → from ≤ t → IsQuiet plan t → ⊥
