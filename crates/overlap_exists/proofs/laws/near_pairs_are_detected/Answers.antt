use Rattle.overlap_exists.proofs.DetectedNearPairs.{near_pairs_detected}
use Rattle.overlap_exists.proofs.laws.near_pairs_are_detected.Goals as goal

pub returns : goal.returns
returns c = near_pairs_detected
