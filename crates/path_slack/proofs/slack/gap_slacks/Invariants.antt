use Rattle.std.proofs.Common.{All}
use Rattle.path_checker.specs.Far.{IsRight}
use Rattle.path_slack.specs.Slacks.{AreGapsBelow, IsGapSlack}
use Rattle.path_slack.proofs.slack.gap_slacks.Given as goal

abbrev pub invariant-loop-segment : goal.invariant-loop-segment
invariant-loop-segment l = record {
  gaps : AreGapsBelow l.layout l.segment 0 l.gaps;
  table : IsRight l.layout l.table;
  slacks : All (IsGapSlack l.layout) l.gaps;
}
