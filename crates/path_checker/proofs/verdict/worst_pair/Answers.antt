use Rattle.std.proofs.Common.{◌≡◌, ℕ, length, subst, arith}
use Rattle.path_checker.specs.Verdicts.{IsWorstBelow}
use Rattle.path_checker.proofs.WorstPair.{worst_more}
use Rattle.path_checker.proofs.verdict.worst_pair.Goals as goal

pub loop-station-preserved : goal.loop-station-preserved
loop-station-preserved c = record {
  worst = worst_more c.args.layout.now c.loop-station.station c.loop-station.worst c.longer-worst.result c.farthest_of-far.result c.loop-station.invariant.worst c.farthest_of-far.ensures.far c.longer-worst.ensures;
  table = c.farthest_of-far.ensures.table;
}

pub returns : goal.returns
returns c =
    let all : c.loop-station.station ≡ length c.args.layout.now.stations = omega arith in
    subst (λ (k : ℕ). IsWorstBelow c.args.layout.now k c.loop-station.worst) all c.loop-station.invariant.worst
