use Rattle.path_checker.proofs.RightTables.{right_open}
use Rattle.path_slack.proofs.slack.path_slack.Goals as goal

pub gap_slacks-requires-clause-table : goal.gap_slacks-requires-clause-table
gap_slacks-requires-clause-table c = right_open c.args.layout.now _ _ c.in_ok-table.ensures
