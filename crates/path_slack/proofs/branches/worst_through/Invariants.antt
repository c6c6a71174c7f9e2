use Rattle.path_checker.specs.Far.{IsFarthest, IsRight}
use Rattle.path_slack.specs.Pairs.{IsWorstPair}
use Rattle.path_slack.proofs.PairsThrough.{IsBeyond, IsThrough}
use Rattle.path_slack.proofs.branches.worst_through.Given as goal

abbrev pub invariant-loop-k : goal.invariant-loop-k
invariant-loop-k l = record {
  seen : IsFarthest (IsBeyond l.layout l.repeater l.k) l.seen;
  worst : IsWorstPair (IsThrough l.layout l.repeater l.line.delay l.k) l.worst;
  table : IsRight l.layout l.table;
}
