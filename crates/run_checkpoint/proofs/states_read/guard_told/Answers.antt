use Rattle.std.proofs.Common.{arith}
use Rattle.run_checkpoint.specs.GuardLines.{guard_of_line}
use Rattle.run_checkpoint.proofs.GuardsRead.{guard_in_range}
use Rattle.run_checkpoint.proofs.states_read.guard_told.Goals as goal

pub overflow_cast-guard : goal.overflow_cast-guard
overflow_cast-guard c = let r = guard_in_range (guard_of_line c.args.line.now).0 c.args.line.now.rest c.requires in omega (arith, r.2.in_row)

pub overflow_cast-guard-2 : goal.overflow_cast-guard-2
overflow_cast-guard-2 c = let r = guard_in_range (guard_of_line c.args.line.now).0 c.args.line.now.rest c.requires in omega (arith, r.2.clash_run)

pub overflow_cast-guard-3 : goal.overflow_cast-guard-3
overflow_cast-guard-3 c = let r = guard_in_range (guard_of_line c.args.line.now).0 c.args.line.now.rest c.requires in omega (arith, r.2.clean_run)

pub overflow_cast-result : goal.overflow_cast-result
overflow_cast-result c = let r = guard_in_range (guard_of_line c.args.line.now).0 c.args.line.now.rest c.requires in omega (arith, r.2.rests)

pub invariant_of-guard : goal.invariant_of-guard
invariant_of-guard c = (guard_in_range (guard_of_line c.args.line.now).0 c.args.line.now.rest c.requires).0
