use Rattle.run_texts.proofs.ShortCaptures.{captures_are_short, captures_before}
use Rattle.run_texts.proofs.laws.captures_are_short.Goals as goal

pub returns-clause-short : goal.returns-clause-short
returns-clause-short c = captures_are_short c.args.plan.now

pub returns-clause-time : goal.returns-clause-time
returns-clause-time c = captures_before c.args.plan.now
