-- Laws of the states of a plan (profile).
use Rattle.std.specs.Prelude.{ℕ}
use Rattle.load_plan.specs.declared.plan.Plan.{Plan}
use Rattle.quiet_state.specs.PlanStates.{IsResumable}
use Rattle.quiet_state.specs.Quiet.{IsQuiet}
use Rattle.quiet_state.specs.Resumed.{state_at}
use Rattle.quiet_state.specs.declared.state.NetState.{NetState}
use Rattle.run_checkpoint.specs.States.{IsStateOfPlan}

-- the state of a quiet half bit is one of its plan
abbrev pub QuietStatesAreOfPlans : Type 0
QuietStatesAreOfPlans = (plan : Plan) (t : ℕ) → IsQuiet plan t → IsStateOfPlan plan (state_at plan t)

-- the network of a plan can go on from each state of it
abbrev pub StatesOfPlansAreResumable : Type 0
StatesOfPlansAreResumable = (plan : Plan) (s : NetState) → IsStateOfPlan plan s → IsResumable plan s
