use Rattle.overlap_exists.proofs.DetectedNearPairs.{collisions_exist}
use Rattle.overlap_exists.proofs.laws.detected_collisions_exist.Goals as goal

pub returns : goal.returns
returns c = collisions_exist
