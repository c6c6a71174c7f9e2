use Rattle.std.proofs.Common.{take}
use Rattle.path_checker.specs.Far.{IsRight}
use Rattle.path_slack.proofs.BranchesSoFar.{IsBranched}
use Rattle.path_slack.proofs.branches.branches_of.Given as goal

abbrev pub invariant-loop-stop : goal.invariant-loop-stop
invariant-loop-stop l = record {
  list : IsBranched l.layout (take l.stop-index l.stops) l.list;
  table : IsRight l.layout l.table;
}
