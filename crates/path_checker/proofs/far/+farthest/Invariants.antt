use Rattle.std.proofs.Common.{take}
use Rattle.path_checker.specs.Far.{IsFarthest, IsRight}
use Rattle.path_checker.proofs.FarthestStation.{IsViaOne}
use Rattle.path_checker.proofs.far.+farthest.Given as goal

abbrev pub decreases-farthest : goal.decreases-farthest
decreases-farthest l = l.room

abbrev pub invariant-loop-stop : goal.invariant-loop-stop
invariant-loop-stop l = record {
  best : IsFarthest (IsViaOne l.layout l.way l.from.tap (take l.stop-index l.near)) l.best;
  table : IsRight l.layout l.table;
}
