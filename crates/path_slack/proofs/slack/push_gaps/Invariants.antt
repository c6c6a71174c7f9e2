use Rattle.std.proofs.Common.{◌+◌, ◌-◌, ◌≤◌, All}
use Rattle.mac_parameters.specs.Parameters.{greatest_place}
use Rattle.path_slack.specs.Slacks.{HasTapAt, AreGapsBelow, IsGapSlack}
use Rattle.path_slack.proofs.slack.push_gaps.Given as goal

abbrev pub invariant-loop-high : goal.invariant-loop-high
invariant-loop-high l = record {
  gaps : AreGapsBelow l.layout l.branches.segment (l.low + 1) l.gaps;
  slacks : All (IsGapSlack l.layout) l.gaps;
  has : HasTapAt l.layout l.branches.segment l.low;
  most : l.low ≤ greatest_place;
}

abbrev pub decreases-loop-high : goal.decreases-loop-high
decreases-loop-high l = greatest_place - l.low
