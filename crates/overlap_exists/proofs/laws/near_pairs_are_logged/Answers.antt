use Rattle.overlap_exists.proofs.DetectedNearPairs.{near_pairs_logged}
use Rattle.overlap_exists.proofs.laws.near_pairs_are_logged.Goals as goal

pub returns : goal.returns
returns c = near_pairs_logged
