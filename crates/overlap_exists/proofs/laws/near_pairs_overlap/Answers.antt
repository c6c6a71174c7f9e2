use Rattle.overlap_exists.proofs.NearPairsOverlap.{near_pairs_overlap}
use Rattle.overlap_exists.proofs.laws.near_pairs_overlap.Goals as goal

pub returns : goal.returns
returns c = near_pairs_overlap
