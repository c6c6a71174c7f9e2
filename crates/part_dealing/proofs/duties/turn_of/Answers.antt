use Rattle.std.proofs.Common.{false, length, arith, sym}
use Rattle.part_dealing.proofs.DutyPlaces.{turn_at}
use Rattle.part_dealing.proofs.duties.turn_of.Goals as goal

pub returns-then-turns-i-clause-place : goal.returns-then-turns-i-clause-place
returns-then-turns-i-clause-place c =
    sym (turn_at c.args.last c.args.turns.now c.loop-i.i _ (let t = c.loop-i-test.true in omega (arith, t)) c.loop-i.invariant (λ within. c.if-turns-i.true))

pub returns-clause-place : goal.returns-clause-place
returns-clause-place c =
    let turns = c.args.turns.now in
    let end = c.loop-i.auto.i-end in
    let past = c.loop-i-test.false in
    sym (turn_at c.args.last turns (length turns) record { part = 0; last = 0; first = 0; end = 0; border = false } (omega arith) (λ k d below. c.loop-i.invariant k d (omega (arith, below, end, past)))
    (λ within. absurd (omega (arith, within))))
