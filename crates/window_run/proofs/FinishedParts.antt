-- Parts that have made all their windows are at the window behind the last, as those of a run on one thread are.
use Rattle.std.proofs.Common.{◌≡◌, ℕ, List, All, map, refl}
use Rattle.load_plan.specs.declared.plan.Plan.{Plan}
use Rattle.net_parts.specs.Machines.{span}
use Rattle.net_parts.specs.Windows.{windows}
use Rattle.turn_run.specs.PartsInTurn.{AreAtWindow}
use Rattle.turn_run.proofs.PartsOneByOne as parts
use Rattle.worker_gate.specs.FinishedParts.{AreFinished}

module _ {S : Type 0} (plan_of : S → Plan) (number at : S → ℕ) (plan : Plan) where
  behind_the_last : (first count : ℕ) (ss : List S) → AreFinished plan_of number at plan first count ss → AreAtWindow plan_of number at plan first count (windows plan) ss
  behind_the_last first count ss a = record { long = a.long; each = a.each }

  pub handed : {X : Type 0} (f : Plan → ℕ → X) (first count : ℕ) (ss : List S) → AreFinished plan_of number at plan first count ss
      → map (λ s. f (plan_of s) (number s)) ss ≡ map (f plan) (span (λ u. u) first count)
  handed f first count ss a = parts.handed plan_of number at plan f first count (windows plan) ss (behind_the_last first count ss a)

  pub all_finished : (first count : ℕ) (ss : List S) → AreFinished plan_of number at plan first count ss → All (λ s. at s ≡ windows (plan_of s)) ss
  all_finished first count ss a = parts.all_finished plan_of number at plan first count (windows plan) ss refl (behind_the_last first count ss a)
