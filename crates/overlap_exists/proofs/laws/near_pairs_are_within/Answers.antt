use Rattle.overlap_exists.proofs.NearPairsWithin.{near_pairs_within}
use Rattle.overlap_exists.proofs.laws.near_pairs_are_within.Goals as goal

pub returns : goal.returns
returns c = near_pairs_within
