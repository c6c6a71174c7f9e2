use Rattle.std.proofs.Common.{Ok}
use Rattle.line_probe.proofs.HeardTaps.{one_probed, probed_runs}
use Rattle.line_probe.proofs.TextsApart.{only_judgement}
use Rattle.line_probe.proofs.TextsRead.{answer_heard, heard_is_text}
use Rattle.line_probe.proofs.read_back.read_runs.Goals as goal

pub returns-clause-within : goal.returns-clause-within
returns-clause-within c = answer_heard c.args.bytes.now c.judged_runs.result c.judged_runs.ensures

pub returns-clause-only : goal.returns-clause-only
returns-clause-only c judged is = only_judgement c.args.bytes.now c.judged_runs.result c.judged_runs.ensures judged is

pub returns-clause-heard : goal.returns-clause-heard
returns-clause-heard c runs heard is =
    only_judgement c.args.bytes.now c.judged_runs.result c.judged_runs.ensures (Ok runs) (heard_is_text c.args.bytes.now runs heard is)

pub returns-clause-probed : goal.returns-clause-probed
returns-clause-probed c plan from to taps lists k runs order end probed at is =
    only_judgement c.args.bytes.now c.judged_runs.result c.judged_runs.ensures (Ok runs)
    (heard_is_text c.args.bytes.now runs (one_probed lists k runs (probed_runs plan from to taps lists order end probed) at) is)
