use Rattle.std.proofs.Common.{arith, inl, subst, sym}
use Rattle.run_checkpoint.specs.Judging.{IsJudgement}
use Rattle.run_checkpoint.proofs.ReadStates.{few_octets, not_long, quiet_answered, resumable_answered, state_answered, text_answered, too_long}
use Rattle.run_checkpoint.proofs.reading.read_state.Goals as goal

pub returns-then-bytes-gt-MOST_STATE_OCTETS-clause-judged : goal.returns-then-bytes-gt-MOST_STATE_OCTETS-clause-judged
returns-then-bytes-gt-MOST_STATE_OCTETS-clause-judged c = inl (sym (too_long c.args.plan.now c.args.bytes.now (omega (arith, c.if-bytes-gt-MOST_STATE_OCTETS.true))))

pub returns-clause-judged : goal.returns-clause-judged
returns-clause-judged c =
    subst (λ j. IsJudgement j c.state_read.result) (sym (not_long c.args.plan.now c.args.bytes.now (omega (arith, c.if-bytes-gt-MOST_STATE_OCTETS.false)))) c.state_read.ensures

pub returns-clause-too_large : goal.returns-clause-too_large
returns-clause-too_large c = (
  λ e. absurd (few_octets c.args.plan.now c.args.bytes.now c.state_read.result c.state_read.ensures e),
  λ long. absurd (omega (arith, c.if-bytes-gt-MOST_STATE_OCTETS.false, long)),
)

pub returns-clause-state : goal.returns-clause-state
returns-clause-state c = text_answered c.args.plan.now c.args.bytes.now c.state_read.result (returns-clause-judged c)

pub returns-clause-states : goal.returns-clause-states
returns-clause-states c = state_answered c.args.plan.now c.args.bytes.now c.state_read.result (returns-clause-judged c)

pub returns-clause-quiet : goal.returns-clause-quiet
returns-clause-quiet c = quiet_answered c.args.plan.now c.args.bytes.now c.state_read.result (returns-clause-judged c)

pub returns-clause-resumable : goal.returns-clause-resumable
returns-clause-resumable c = resumable_answered c.args.plan.now c.args.bytes.now c.state_read.result (returns-clause-judged c)
