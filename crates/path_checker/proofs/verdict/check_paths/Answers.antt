use Rattle.std.proofs.Common.{length}
use Rattle.path_checker.proofs.AlikeLayouts.{is_kept}
use Rattle.path_checker.proofs.NetworkLaws.{carries, repeats, lawful}
use Rattle.path_checker.proofs.WorstPair.{worst_low, is_verdict, no_pair_only}
use Rattle.path_checker.proofs.verdict.check_paths.Goals as goal

pub verdict_of-requires : goal.verdict_of-requires
verdict_of-requires c = worst_low c.args.layout.now c.requires (length c.args.layout.now.stations) c.worst_pair.result c.worst_pair.ensures

pub returns-clause-no_pair : goal.returns-clause-no_pair
returns-clause-no_pair c =
    no_pair_only c.args.layout.now c.verdict_of.result (is_verdict c.args.layout.now c.requires c.worst_pair.result c.verdict_of.result c.worst_pair.ensures c.verdict_of.ensures)

pub returns-clause-verdict : goal.returns-clause-verdict
returns-clause-verdict c = is_verdict c.args.layout.now c.requires c.worst_pair.result c.verdict_of.result c.worst_pair.ensures c.verdict_of.ensures

pub returns-clause-detected : goal.returns-clause-detected
returns-clause-detected c =
    is_kept carries repeats lawful c.args.layout.now c.verdict_of.result (is_verdict c.args.layout.now c.requires c.worst_pair.result c.verdict_of.result c.worst_pair.ensures c.verdict_of.ensures)
