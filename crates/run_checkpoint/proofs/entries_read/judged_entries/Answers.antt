use Rattle.std.proofs.Common.{arith, sym, ◌∙◌}
use Rattle.run_checkpoint.proofs.EntriesTold.{as_many_ended, entry_told}
use Rattle.run_checkpoint.proofs.entries_read.judged_entries.Goals as goal

pub told_at_end-requires-clause-many : goal.told_at_end-requires-clause-many
told_at_end-requires-clause-many c = as_many_ended _ c.loop-rest.told c.loop-rest.invariant.es c.loop-rest.invariant.told_of

pub loop-rest-preserved : goal.loop-rest-preserved
loop-rest-preserved c =
    let s = c.loop-rest.invariant in
    entry_told c.args.plan.now c.args.t c.args.senders.now c.args.first c.args.octets.now c.loop-rest.told c.loop-rest.number c.loop-rest.rest.now s c.in-Some.line.now c.in-Some.after.now c.in_ok-row.row c.in-Some.ensures.some
    (sym c.is_end_line.ensures ∙ c.if-is_end_line.false) c.in_ok-row.ensures.judged c.in_ok-due.due.octets c.in_ok-due.due.number c.in_ok-due.due.rest.now c.add.new.self
    (c.in_ok-due.ensures.judged c.args.plan.now c.args.t c.args.senders.now s.es) c.in_ok-due.ensures.room (omega (arith, c.in-Some.ensures.shorter)) c.in_ok-add.ensures.rows c.in_ok-add.ensures.captures c.in_ok-add.ensures.ended
