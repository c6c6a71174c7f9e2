-- The ends of stop and of resume, from what was read and what was written.
use Rattle.std.proofs.Common.{◌≡◌, ℕ, Option, None, Some, List, refl, sym, ap, subst, ◌∙◌, inl, inr}
use Rattle.std.specs.Prelude.{IfSome}
use Rattle.collision_log.specs.declared.row.Row.{Row}
use Rattle.load_plan.specs.declared.plan.Plan.{Plan}
use Rattle.network.specs.declared.outputs.Taken.{Taken}
use Rattle.outside.specs.Files.{Files}
use Rattle.program_texts.specs.Texts.{line_of_no_quiet, line_of_stopped, name_of_state}
use Rattle.quiet_state.specs.Resumed.{state_at}
use Rattle.quiet_state.specs.Quiet.{IsQuiet}
use Rattle.run_checkpoint.proofs.ResumableTexts.{quiet_states}
use Rattle.run_checkpoint.specs.States.{IsStateOfPlan, text_of_state}
use Rattle.quiet_state.specs.declared.state.NetState.{NetState}
use Rattle.net_step.specs.Stops.{HasNoQuiet, IsFirstQuiet}
use Rattle.run_endings.specs.declared.endings.Ending.{Ending}
use Rattle.run_endings.specs.declared.endings.Ending.TheVariants as ending
use Rattle.program_endings.specs.CheckpointFiles.{HasState}
use Rattle.run_endings.specs.Endings.{HasOnlyFiled, HasOnlyRead, IsBeforeRun, IsFileEnd, IsPlanned, IsRunEnd, IsTextEnd, Says}
use Rattle.program_endings.specs.Endings.{IsResumeEnd, IsStopEnd, IsUnstated}
use Rattle.run_endings.specs.Moments.{Moment}
use Rattle.program_endings.specs.StoppedRuns.{IsResumedSummary, IsStopLine, resumed_files, state_files}
use Rattle.run_endings.specs.Runs.{IsSummaryOver, output_files}
use Rattle.run_endings.specs.Writing.{IsBroken, put_file}
use Rattle.run_endings.specs.WrittenNames.{AreNamesFree, RunOf, StateOf, ToWrite}
use Rattle.run_forms.proofs.RunEnds.{filed_before, rose-before, run-filed, run-unfiled, said_before}

-- there was no memory after all was read
pub unrun-before : (layout : List ℕ) (outputs : ToWrite) (before mid : Moment) → HasOnlyRead before mid → IsBeforeRun layout outputs before mid ending.Memory
unrun-before layout outputs before mid read = inr (inr (inr (refl, read.held, read.written)))

-- the run stopped in this half bit
pub stop-ran : (layout prefix : List ℕ) (from : ℕ) (plan : Plan) (t : ℕ) (before mid after : Moment) (e : Ending) → HasOnlyRead before mid → IsPlanned layout before.held plan → AreNamesFree layout (StateOf prefix) plan.layout → IsFirstQuiet plan from t
    → IsRunEnd (state_files prefix plan t) (IsStopLine t) mid after e → IsStopEnd layout prefix from before after e
stop-ran layout prefix from plan t before mid after e read planned free first end =
    elim end [
      | inl unrun ↦ inl (inr (inr (inr (unrun.0, rw read.held at unrun.1, rw read.written at unrun.2))))
      | inr filed ↦ inr (inr (record { plan = plan; planned = planned; free = free; t = t; first = first; filed = filed_before (state_files prefix plan t) (IsStopLine t) before mid after e read filed }))
    ]

-- it has no quiet half bit
pub stop-unquiet : (layout prefix : List ℕ) (from : ℕ) (plan : Plan) (before mid after : Moment) → HasOnlyRead before mid → IsPlanned layout before.held plan → AreNamesFree layout (StateOf prefix) plan.layout → HasNoQuiet plan from → after.held ≡ mid.held → (line : List ℕ) → line ≡ line_of_no_quiet → Says line mid after
    → IsStopEnd layout prefix from before after ending.Unquiet
stop-unquiet layout prefix from plan before mid after read planned free never held line is said =
    inr (inl (record { plan = plan; planned = planned; free = free; never = never; said = said_before line_of_no_quiet before mid after read (subst (λ (xs : List ℕ). Says xs mid after) is said); held = held ∙ read.held }))

-- the state of what is held is that of what was held
pub state-before : (plan : Plan) (name : List ℕ) (held mid : Option Files) (state : NetState) → mid ≡ held → HasState plan name mid state → HasState plan name held state
state-before plan name held mid state is has = rw is at has

unstated_before : (plan : Plan) (name : List ℕ) (before mid after : Moment) (e : Ending) → HasOnlyRead before mid → IsUnstated plan name mid after e → IsUnstated plan name before after e
unstated_before plan name before mid after ending.Read read said =
    (elim said.0 [ inl absent ↦ inl (rw read.held at absent) | inr rose ↦ inr (rose-before before.reads mid.reads after.reads read.reads rose) ], said_before _ before mid after read said.1)
unstated_before plan name before mid after ending.Memory read said = rw read.written at said
unstated_before plan name before mid after ending.State read said = (said.0, rw read.held at said.1, said_before _ before mid after read said.2)
unstated_before plan name before mid after _ read said = absurd said

-- the state could not be read
pub resume-unstated : (layout prefix name : List ℕ) (plan : Plan) (before mid after : Moment) (e : Ending) → HasOnlyRead before mid → IsPlanned layout before.held plan → AreNamesFree layout (RunOf prefix) plan.layout → name ≡ name_of_state prefix
    → after.held ≡ mid.held
    → IsUnstated plan name mid after e → IsResumeEnd layout prefix before after e
resume-unstated layout prefix name plan before mid after e read planned free is held said =
    inr (inl (record { plan = plan; planned = planned; free = free; said = rw is at (unstated_before plan name before mid after e read said); held = held ∙ read.held }))

-- the run went on from the state
pub resume-ran : (layout prefix name : List ℕ) (plan : Plan) (state : NetState) (before aimed mid after : Moment) (e : Ending) → HasOnlyRead before aimed → HasOnlyRead before mid → IsPlanned layout before.held plan
    → AreNamesFree layout (RunOf prefix) plan.layout → name ≡ name_of_state prefix
    → HasState plan name aimed.held state → IsRunEnd (resumed_files prefix plan state) (IsResumedSummary plan state) mid after e → IsResumeEnd layout prefix before after e
resume-ran layout prefix name plan state before aimed mid after e first read planned free is has end =
    elim end [
      | inl unrun ↦ inl (inr (inr (inr (unrun.0, rw read.held at unrun.1, rw read.written at unrun.2))))
      | inr filed ↦ inr (inr (record {
        plan = plan;
        planned = planned;
        free = free;
        state = state;
        read = rw is at (state-before plan name before.held aimed.held state first.held has);
        filed = filed_before (resumed_files prefix plan state) (IsResumedSummary plan state) before mid after e read filed;
      }))
    ]

-- the state and then the line of its half bit were written
pub stop-filed : (prefix : List ℕ) (plan : Plan) (state : NetState) (before mid after : Moment) (e : Ending) (line text : List ℕ) → state ≡ state_at plan state.t → HasOnlyFiled before mid
    → mid.held ≡ put_file (name_of_state prefix) (text_of_state plan state) before.held → line ≡ line_of_stopped state.t → text ≡ line → IsTextEnd text mid after e → IsRunEnd (state_files prefix plan state.t) (IsStopLine state.t) before after e
stop-filed prefix plan state before mid after e line text at only held said is told =
    run-filed (state_files prefix plan state.t) (IsStopLine state.t) before mid after e line text only (held ∙ ap (λ s. put_file (name_of_state prefix) (text_of_state plan s) before.held) at) said is told

-- the state could not be written
pub stop-unfiled : (prefix : List ℕ) (plan : Plan) (state : NetState) (before after : Moment) (e : Ending) → state ≡ state_at plan state.t → IsBroken (name_of_state prefix) (text_of_state plan state) before.held after.held
    → IsFileEnd before after e → HasOnlyFiled before after → IsRunEnd (state_files prefix plan state.t) (IsStopLine state.t) before after e
stop-unfiled prefix plan state before after e at broken end only =
    run-unfiled (state_files prefix plan state.t) (IsStopLine state.t) before after e (inl (subst (λ (s : NetState). IsBroken (name_of_state prefix) (text_of_state plan s) before.held after.held) at broken)) end only

-- the state of a quiet half bit is one of its plan
pub of-plan : (plan : Plan) (state : NetState) → IsQuiet plan state.t → state ≡ state_at plan state.t → IsStateOfPlan plan state
of-plan plan state quiet at = subst (λ (s : NetState). IsStateOfPlan plan s) (sym at) (quiet_states plan state.t quiet)

-- the state that was found
pub found-first : (plan : Plan) (from : ℕ) (found : Option NetState) (state : NetState) → found ≡ Some state → IfSome found (λ s. IsFirstQuiet plan from s.t × (s ≡ state_at plan s.t)) → IsFirstQuiet plan from state.t
found-first plan from None state is first = absurd (cc)
found-first plan from (Some s) state is first = let same : s ≡ state = cc in subst (λ (x : NetState). IsFirstQuiet plan from x.t) same first.0

-- the half bit is the one that was asked for
pub first-from : (plan : Plan) (asked from t : ℕ) → asked ≡ from → IsFirstQuiet plan asked t → IsFirstQuiet plan from t
first-from plan asked from t is first = rw is at first

pub never-from : (plan : Plan) (asked from : ℕ) → asked ≡ from → HasNoQuiet plan asked → HasNoQuiet plan from
never-from plan asked from is never = subst (λ n. HasNoQuiet plan n) is never
