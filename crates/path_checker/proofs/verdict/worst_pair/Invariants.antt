use Rattle.path_checker.specs.Far.{IsRight}
use Rattle.path_checker.specs.Verdicts.{IsWorstBelow}
use Rattle.path_checker.proofs.verdict.worst_pair.Given as goal

abbrev pub invariant-loop-station : goal.invariant-loop-station
invariant-loop-station l = record {
  worst : IsWorstBelow l.layout l.station l.worst;
  table : IsRight l.layout l.table;
}
