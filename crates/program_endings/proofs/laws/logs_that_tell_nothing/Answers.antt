use Rattle.program_endings.proofs.CollisionsAreTold.{empty_log_refused, infix_refused, late_hit_refused}
use Rattle.program_endings.proofs.laws.logs_that_tell_nothing.Goals as goal

pub returns-clause-empty : goal.returns-clause-empty
returns-clause-empty c = empty_log_refused

pub returns-clause-late : goal.returns-clause-late
returns-clause-late c = late_hit_refused

pub returns-clause-inner : goal.returns-clause-inner
returns-clause-inner c = infix_refused
