use Rattle.path_slack.specs.Slacks.{IsOverlong}
use Rattle.path_slack.proofs.Verdicts.{is_overlong, not_within, not_pairless, only_true, only_false}
use Rattle.path_slack.proofs.slack.is_over.Goals as goal

pub returns-in-Within : goal.returns-in-Within
returns-in-Within c = only_false (IsOverlong c.args.layout.now) (λ over. not_within c.args.layout.now c.in_ok-check_paths.field-0 c.in-Within.worst c.in-Within.a c.in-Within.b c.in_ok-check_paths.ensures.verdict c.in-Within.is over)

pub returns-in-Over : goal.returns-in-Over
returns-in-Over c = only_true (IsOverlong c.args.layout.now) (is_overlong c.args.layout.now c.in_ok-check_paths.field-0 c.in-Over.worst c.in-Over.a c.in-Over.b c.in_ok-check_paths.ensures.verdict c.in-Over.is)

pub returns-in-NoPair : goal.returns-in-NoPair
returns-in-NoPair c = only_false (IsOverlong c.args.layout.now) (λ over. not_pairless c.args.layout.now c.in_ok-check_paths.field-0 c.in_ok-check_paths.ensures.verdict c.in-NoPair.is over)
