use Rattle.line_probe.proofs.FoundRuns.{answer_none, answer_shorter, answer_text, answer_told}
use Rattle.line_probe.proofs.fields.line_of.Goals as goal

pub returns-clause-told : goal.returns-clause-told
returns-clause-told c = answer_told c.args.octets.now c.run_at.result c.run_at.ensures

pub returns-clause-text : goal.returns-clause-text
returns-clause-text c = answer_text c.args.octets.now c.run_at.result c.run_at.ensures

pub returns-clause-shorter : goal.returns-clause-shorter
returns-clause-shorter c = answer_shorter c.args.octets.now c.run_at.result c.run_at.ensures

pub returns-clause-none : goal.returns-clause-none
returns-clause-none c = answer_none c.args.octets.now c.run_at.result c.run_at.ensures
