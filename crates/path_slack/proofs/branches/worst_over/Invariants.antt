use Rattle.std.proofs.Common.{take}
use Rattle.path_checker.specs.Far.{IsFarthest}
use Rattle.path_slack.proofs.SidesOfGaps.{IsFromSide, Below, Above}
use Rattle.path_slack.proofs.branches.worst_over.Given as goal

abbrev pub invariant-loop-branch : goal.invariant-loop-branch
invariant-loop-branch l = record {
  below : IsFarthest (IsFromSide l.layout (Below l.layout l.high) (take l.branch-index l.list)) l.below;
  above : IsFarthest (IsFromSide l.layout (Above l.layout l.high) (take l.branch-index l.list)) l.above;
}
